-- The check's refusals, then 21, then 19.
-- Assumes nothing.
use mathlib.Core.Path.{refl, sym, ◌∙◌}
use native.Mathlib.Omega.{arith}
use Rattle.std.proofs.lemmas.Result.{err_from_is_err_and}
use Rattle.run_figures.proofs.Held.{roomy}
use Rattle.laws.proofs.Slices.{long_enough}
use Rattle.part_file.proofs.Answers.{divisible, has_boundary, was_refused, outside, parts}
use Rattle.part_file.proofs.part.Goals as goal

pub returns-then-not-is_boundary : goal.returns-then-not-is_boundary
returns-then-not-is_boundary c =
    let a = c.args in
    outside a.day a.file.now a.k a.first.now a.second.now _ c.check_into.ensures.0 _ c.in_ok-t.was _ c.is_boundary.ensures (c.if-not-is_boundary.true)

pub overflow_sub-end : goal.overflow_sub-end
overflow_sub-end c =
    let a = c.args in
    omega (arith, long_enough a.day a.file.now _ (sym c.check_into.ensures.0 ∙ c.in_ok-t.was))

pub slice_bounds-divide-end : goal.slice_bounds-divide-end
slice_bounds-divide-end c =
    let a = c.args in
    omega (arith, long_enough a.day a.file.now _ (sym c.check_into.ensures.0 ∙ c.in_ok-t.was))

pub slice_bounds-divide-count-2 : goal.slice_bounds-divide-count-2
slice_bounds-divide-count-2 c =
    let a = c.args in
    omega (arith, long_enough a.day a.file.now _ (sym c.check_into.ensures.0 ∙ c.in_ok-t.was))

pub slice_bounds-divide-start-2 : goal.slice_bounds-divide-start-2
slice_bounds-divide-start-2 c =
    let a = c.args in
    omega (arith, long_enough a.day a.file.now _ (sym c.check_into.ensures.0 ∙ c.in_ok-t.was))

pub divide-requires : goal.divide-requires
divide-requires c =
    let a = c.args in
    divisible a.day a.file.now _ (sym c.check_into.ensures.0 ∙ c.in_ok-t.was) _ _ _ c.in_ok-t.was c.check_into.ensures.1 (roomy _ _ c.check_into.auto.figures refl) a.k (has_boundary _ _ _ c.is_boundary.ensures (c.if-not-is_boundary.false))

pub returns-in_err-t : goal.returns-in_err-t
returns-in_err-t c =
    let a = c.args in
    let p = err_from_is_err_and c.from_residual.result c.from_residual.ensures.1 in
    rw (p.1, p.2) (was_refused a.day a.file.now a.k a.first.now a.second.now _ c.check_into.ensures.0 _ c.in_err-t.was)

pub returns : goal.returns
returns c =
    let a = c.args in
    let d = c.divide.ensures in
    parts a.day a.file.now a.k a.first.now a.second.now _ c.check_into.ensures.0 _ c.in_ok-t.was _ c.is_boundary.ensures (c.if-not-is_boundary.false) _ _ _ d.0 d.1 d.2
