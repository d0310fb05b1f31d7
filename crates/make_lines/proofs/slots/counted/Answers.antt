-- A value less than is asked for, or what is more than that is empty.
-- Assumes nothing.
use Prim.Native.Nat.{ℕ}
use Rattle.std.specs.Prelude.{Err}
use Rattle.layout.specs.Findings.{fault}
use Rattle.layout.specs.declared.Reason.TheVariants.{WrongForm}
use lib.Dec.{eqb}
use lib.ListN.{length}
use mathlib.Core.Path.{◌≡◌, ap, ◌∙◌}
use Rattle.std.proofs.Common.{rules, tests}
use Rattle.std.specs.List.{count_by}
use Rattle.std.proofs.lemmas.Iterator.{YieldsList-from_slice}
use Rattle.std.proofs.lemmas.Iterator.Consumers.{YieldsList-at, YieldsList-from_filter, count_from_yields_List}
use Rattle.std.proofs.lemmas.List.Sums.{length-filter}
use Rattle.fields.specs.Bytes.{every}
use Rattle.field_texts.proofs.Wrote.{tail_part}
use Rattle.make_lines.specs.Lines.{is_semicolon}
use Rattle.make_lines.proofs.Counting.{count_missing, count_end}
use Rattle.make_lines.proofs.slots.counted.Goals.{After-count-given}
use Rattle.make_lines.proofs.slots.counted.Goals as goal

-- how many semicolons there are
semicolons : (p : After-count-given) → p.count-given.result ≡ count_by (λ b. eqb b 59) p.args.line.now
semicolons p =
    let l = p.args.line.now in
    count_from_yields_List p.filter.result _ p.count-given.ensures.ran
    (YieldsList-from_filter _ (λ b. eqb b 59) (YieldsList-at p.filter.ensures.source (YieldsList-from_slice l cc)) p.filter.ensures.closure (λ x r q k. search (rules, tests)))
    ∙ length-filter (λ b. eqb b 59) l

pub returns-in-Some : goal.returns-in-Some
returns-in-Some c =
    let a = c.args in
    let found = c.in-Some.ensures.lookup in
    ap (λ (k : ℕ). Err (fault WrongForm k)) c.field.ensures
    ∙ count_missing a.line.now _ (semicolons (goal.at.returns-in-Some c).After-count-given) a.slots.now c.in-Some.missing.now found.3.0 found.1

pub returns : goal.returns
returns c =
    let a = c.args in
    let l = a.line.now in
    c.demand.ensures
    ∙ count_end l _ (semicolons (goal.at.returns c).After-count-given) a.slots.now c.in_default.ensures.lookup.3 c.only_semicolons.result
    (c.only_semicolons.ensures ∙ ap (every is_semicolon) (tail_part c.value_start-more.result l ∙ c.value_start-more.ensures.1))
