-- The four figures in turn, each against its total: a fault ends the stage, and a right figure leaves the rest.
-- Assumes nothing.
use Rattle.std.proofs.Common.{ℕ, ◌+◌, ◌≡◌, ◌∙◌, refl, sym, ap, List, ◌++◌, arith}
use Rattle.dates.specs.Dates.{ddmmyy}
use Rattle.figures.specs.declared.totals.Totals.{Totals}
use Rattle.layout.specs.Findings.{sound}
use Rattle.layout.specs.Rows.{Row, first_fault}
use Rattle.rules.specs.Fields.{transactions_field, records_field, sum_field, first_date_field}
use Rattle.rules.specs.Layouts.{own, figures88}
use Rattle.record_shared.proofs.Pieces.{past, ends}
use Rattle.record_88_89.proofs.Laws.{figure}
use Rattle.record_88_89.proofs.figures_against.Goals as goal

-- the figures, and what stands behind them
module _ (t : Totals) (f : Totals) (ks r : List ℕ) where
  abbrev transactions : List Row
  transactions = own transactions_field r t.transactions.0

  abbrev records : List Row
  records = own records_field r (t.records.0 + 1)

  abbrev sum : List Row
  sum = own sum_field r t.sum.0

  abbrev first : List Row
  first = own first_date_field r (ddmmyy t.first)

  past_transactions : first_fault f ks r transactions ≡ sound → first_fault f ks r (figures88 r t) ≡ first_fault f ks r (records ++ sum ++ first)
  past_transactions h = past f ks r transactions (records ++ sum ++ first) h

  past_records : first_fault f ks r transactions ≡ sound → first_fault f ks r records ≡ sound → first_fault f ks r (figures88 r t) ≡ first_fault f ks r (sum ++ first)
  past_records h g = past_transactions h ∙ past f ks r records (sum ++ first) g

  past_sum : first_fault f ks r transactions ≡ sound → first_fault f ks r records ≡ sound → first_fault f ks r sum ≡ sound → first_fault f ks r (figures88 r t) ≡ first_fault f ks r first
  past_sum h g k = past_records h g ∙ past f ks r sum first k

pub returns-in_err-figure_at : goal.returns-in_err-figure_at
returns-in_err-figure_at c = λ f ks.
    let r = c.args.r.now in
    let t = c.args.totals in
    let wrong = figure f ks r transactions_field (c.figure_at.ensures f ks) c.from.ensures c.in_err-figure_at.was in
    grind (arith, ends f ks r (transactions t f ks r) (records t f ks r ++ sum t f ks r ++ first t f ks r) wrong)

pub returns-in_err-figure_at-2 : goal.returns-in_err-figure_at-2
returns-in_err-figure_at-2 c = λ f ks.
    let r = c.args.r.now in
    let t = c.args.totals in
    let one = figure f ks r transactions_field (c.figure_at.ensures f ks) c.from.ensures c.in_ok-figure_at.was in
    let wrong = figure f ks r records_field (c.figure_at-2.ensures f ks) (ap (λ (n : ℕ). n + 1) c.from-2.ensures) c.in_err-figure_at-2.was in
    grind (arith, past_transactions t f ks r one ∙ ends f ks r (records t f ks r) (sum t f ks r ++ first t f ks r) wrong)

pub returns-in_err-figure_at-3 : goal.returns-in_err-figure_at-3
returns-in_err-figure_at-3 c = λ f ks.
    let r = c.args.r.now in
    let t = c.args.totals in
    let one = figure f ks r transactions_field (c.figure_at.ensures f ks) c.from.ensures c.in_ok-figure_at.was in
    let two = figure f ks r records_field (c.figure_at-2.ensures f ks) (ap (λ (n : ℕ). n + 1) c.from-2.ensures) c.in_ok-figure_at-2.was in
    let wrong = figure f ks r sum_field (c.figure_at-3.ensures f ks) refl c.in_err-figure_at-3.was in
    grind (arith, past_records t f ks r one two ∙ ends f ks r (sum t f ks r) (first t f ks r) wrong)

pub returns : goal.returns
returns c = λ f ks.
    let r = c.args.r.now in
    let t = c.args.totals in
    let one = figure f ks r transactions_field (c.figure_at.ensures f ks) c.from.ensures c.in_ok-figure_at.was in
    let two = figure f ks r records_field (c.figure_at-2.ensures f ks) (ap (λ (n : ℕ). n + 1) c.from-2.ensures) c.in_ok-figure_at-2.was in
    let three = figure f ks r sum_field (c.figure_at-3.ensures f ks) refl c.in_ok-figure_at-3.was in
    sym (past_sum t f ks r one two three ∙ figure f ks r first_date_field (c.figure_at-4.ensures f ks) c.ddmmyy_of.ensures refl)
