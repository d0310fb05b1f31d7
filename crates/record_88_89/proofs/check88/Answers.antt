-- Record 88, stage by stage: where it belongs, the figures, the last date, the zeros.
-- Assumes nothing.
use Rattle.std.proofs.Common.{ℕ, ◌≡◌, ◌∙◌, refl, sym, List, [], ◌∷◌, ◌++◌, Err, arith}
use Rattle.std.specs.Prelude.{if◌then◌else◌}
use Rattle.dates.specs.Dates.{ddmmyy}
use Rattle.fields.specs.Bytes.{every, is_zero, part}
use Rattle.figures.specs.declared.totals.Totals.{Totals}
use Rattle.layout.specs.Findings.{fault, sound}
use Rattle.layout.specs.declared.Reason.TheVariants.{NotFixed}
use Rattle.layout.specs.Rules.{zeros}
use Rattle.layout.specs.Rows.{Row, at, first_fault}
use Rattle.rules.specs.Fields.{last_date_field}
use Rattle.rules.specs.Layouts.{own, head88, figures88, record88}
use Rattle.rules.specs.declared.Assignment.{Assignment}
use Rattle.record_shared.proofs.Pieces.{past, ends}
use Rattle.record_88_89.proofs.Laws.{figure}
use Rattle.record_88_89.proofs.check88.Goals as goal

-- the last date, and the zeros behind it
module _ (a : Assignment) (f : Totals) (ks r : List ℕ) where
  abbrev figures : List Row
  figures = figures88 r a.totals.totals

  abbrev last : List Row
  last = own last_date_field r (ddmmyy a.totals.last)

  abbrev empty : List Row
  empty = at 10 54 80 zeros ∷ []

  empty_is : first_fault f ks r empty ≡ (if every is_zero (part 54 80 r) then sound else Err (fault NotFixed 10))
  unfolding first_fault
  empty_is = refl

  module _ (belongs : first_fault f ks r (head88 a r) ≡ sound) where
    past_head : first_fault f ks r (record88 a r) ≡ first_fault f ks r (figures ++ last ++ empty)
    past_head = past f ks r (head88 a r) (figures ++ last ++ empty) belongs

    module _ (right : first_fault f ks r figures ≡ sound) where
      past_figures : first_fault f ks r (record88 a r) ≡ first_fault f ks r (last ++ empty)
      past_figures = past_head ∙ past f ks r figures (last ++ empty) right

      past_last : first_fault f ks r last ≡ sound → first_fault f ks r (record88 a r) ≡ (if every is_zero (part 54 80 r) then sound else Err (fault NotFixed 10))
      past_last h = past_figures ∙ past f ks r last empty h ∙ empty_is

pub returns-in_err-belonging88 : goal.returns-in_err-belonging88
returns-in_err-belonging88 c = λ f ks.
    let a = c.args.a in
    let r = c.args.r.now in
    grind (arith, ends f ks r (head88 a r) (figures a f ks r ++ last a f ks r ++ empty a f ks r) (sym (c.belonging88.ensures f ks) ∙ c.in_err-belonging88.was))

pub returns-in_err-figures_against : goal.returns-in_err-figures_against
returns-in_err-figures_against c = λ f ks.
    let a = c.args.a in
    let r = c.args.r.now in
    let head = sym (c.belonging88.ensures f ks) ∙ c.in_ok-belonging88.was in
    grind (arith, past_head a f ks r head ∙ ends f ks r (figures a f ks r) (last a f ks r ++ empty a f ks r) (sym (c.figures_against.ensures f ks) ∙ c.in_err-figures_against.was))

pub returns-in_err-figure_at : goal.returns-in_err-figure_at
returns-in_err-figure_at c = λ f ks.
    let a = c.args.a in
    let r = c.args.r.now in
    let head = sym (c.belonging88.ensures f ks) ∙ c.in_ok-belonging88.was in
    let right = sym (c.figures_against.ensures f ks) ∙ c.in_ok-figures_against.was in
    let wrong = figure f ks r last_date_field (c.figure_at.ensures f ks) c.ddmmyy_of.ensures c.in_err-figure_at.was in
    grind (arith, past_figures a f ks r head right ∙ ends f ks r (last a f ks r) (empty a f ks r) wrong)

pub returns : goal.returns
returns c = λ f ks.
    let a = c.args.a in
    let r = c.args.r.now in
    let head = sym (c.belonging88.ensures f ks) ∙ c.in_ok-belonging88.was in
    let right = sym (c.figures_against.ensures f ks) ∙ c.in_ok-figures_against.was in
    let dated = figure f ks r last_date_field (c.figure_at.ensures f ks) c.ddmmyy_of.ensures c.in_ok-figure_at.was in
    grind (arith, past_last a f ks r head right dated)
