-- The lines that `split` gives, each with its place: what the loop keeps, a line refused, and the end.
-- Assumes nothing.
use Prim.Native.Nat.{ℕ, ◌+◌, ◌<◌}
use mathlib.Core.Path.{◌≡◌, sym, ap, ◌∙◌}
use mathlib.Core.List.{List, ◌∷◌}
use native.Mathlib.Omega.{arith}
use lib.Dec.{eqb}
use lib.ListN.{length, get_or, drop, length-append}
use Rattle.std.proofs.Common.{rules, tests}
use Rattle.std.specs.List.{enumerate_from, slice_split}
use Rattle.std.proofs.lemmas.Iterator.Consumers.{YieldsList-at, YieldsList-from_enumerate, YieldsList-turn, YieldsList-end}
use Rattle.std.proofs.lemmas.Iterator.Splits.{YieldsList-from_slice_split}
use Rattle.rules.specs.Refusals.{refusal}
use Rattle.make_lines.specs.Lines.{lines_of}
use Rattle.make_lines.proofs.Drafts.{added_few, all_lines, going_end, going_long, going_next, going_stop, line_next, line_place, refused_told}
use Rattle.make_lines.proofs.take_lines.Goals.{After-take_line-taken}
use Rattle.make_lines.proofs.take_lines.Goals as goal

-- this turn's line, and its place
turn : (p : After-take_line-taken)
    → let all = enumerate_from 0 (slice_split (λ b. eqb b 10) p.args.values.now) in
    let k = length p.loop-i.yielded in
    (k < length all) × ((p.in-Some.i, p.in-Some.line.now) ≡ get_or all k (p.in-Some.i, p.in-Some.line.now))
turn p =
    YieldsList-turn
    (YieldsList-at p.into_iter-i-iterator.ensures.into_iter_gives
    (YieldsList-from_enumerate
    (YieldsList-at p.enumerate-i-items.ensures.source (YieldsList-from_slice_split _ _ p.args.values.now p.split.ensures.rest p.split.ensures.done p.split.ensures.closure (λ x r q k. search (rules, tests))))
    p.enumerate-i-items.ensures.count))
    p.loop-i.yielded _ p.loop-i.yielded_by p.next.result _ _ p.in-Some.is p.next.ensures.steps

pub overflow_add-records : goal.overflow_add-records
overflow_add-records c =
    omega (arith, (going_long _ _ _ _ _ c.loop-i.invariant).1, added_few _ _ c.in-Ok.n (sym c.in-Ok.is ∙ c.take_line-taken.ensures.0))

pub loop-i-preserved : goal.loop-i-preserved
loop-i-preserved c =
    let a = c.args in
    let t = turn (goal.at.loop-i-preserved c).After-take_line-taken in
    let k = length c.loop-i.yielded in
    let q = line_next a.values.now k c.in-Some.i c.in-Some.line.now t.0 t.1 ∙ ap (λ (l : List ℕ). l ∷ drop (k + 1) (lines_of a.values.now)) (sym c.without_return.ensures) in
    rw length-append (going_next a.values.now a.out.now c.loop-i.out k c.loop-i.records c.loop-i.invariant c.without_return.result.now q _ c.take_line-taken.ensures.1 c.in-Ok.n c.take_line-taken.auto.out (sym c.in-Ok.is ∙ c.take_line-taken.ensures.0))

pub returns-in-Err : goal.returns-in-Err
returns-in-Err c =
    let a = c.args in
    let t = turn (goal.at.returns-in-Err c).After-take_line-taken in
    let k = length c.loop-i.yielded in
    let q = line_next a.values.now k c.in-Some.i c.in-Some.line.now t.0 t.1 ∙ ap (λ (l : List ℕ). l ∷ drop (k + 1) (lines_of a.values.now)) (sym c.without_return.ensures) in
    refused_told a.values.now a.out.now _ _
    (c.at.ensures ∙ ap (λ (n : ℕ). refusal c.in-Err.fault.reason 0 (n + 1) c.in-Err.fault.field) (line_place a.values.now k c.in-Some.i c.in-Some.line.now t.0 t.1))
    (going_stop a.values.now a.out.now c.loop-i.out k c.loop-i.records c.loop-i.invariant c.without_return.result.now q _ c.take_line-taken.ensures.1 c.in-Err.fault.reason c.in-Err.fault.field (sym c.in-Err.is ∙ c.take_line-taken.ensures.0))

pub returns : goal.returns
returns c =
    let a = c.args in
    going_end a.values.now a.out.now _ _ _ c.loop-i.invariant
    (all_lines a.values.now _
    (YieldsList-end
    (YieldsList-at c.into_iter-i-iterator.ensures.into_iter_gives
    (YieldsList-from_enumerate
    (YieldsList-at c.enumerate-i-items.ensures.source (YieldsList-from_slice_split _ _ a.values.now c.split.ensures.rest c.split.ensures.done c.split.ensures.closure (λ x r q k. search (rules, tests))))
    c.enumerate-i-items.ensures.count))
    c.loop-i.yielded _ c.loop-i.yielded_by c.next.result _ c.in-None.is c.next.ensures.steps).1)
