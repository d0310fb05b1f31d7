-- One record more: its place is taken, or the unplaced ones are one more, which are fewer than the message holds.
-- Assumes nothing.
use mathlib.Core.Path.{sym, ◌∙◌, ap}
use native.Mathlib.Omega.{arith}
use Prim.Native.Nat.{ℕ}
use Rattle.rules.specs.Messages.{places, used}
use Rattle.rules.proofs.Mask.{unplaced_with, placed_with}
use Rattle.record_49.proofs.with_record.Goals as goal

pub overflow_add-result : goal.overflow_add-result
unfolding used
overflow_add-result c = omega (arith, c.requires.2)

pub returns-then-not-is_place : goal.returns-then-not-is_place
returns-then-not-is_place c =
    let s = c.args in
    sym (unplaced_with s.places s.line s.column (sym c.is_place.ensures ∙ c.if-not-is_place.true))

pub returns : goal.returns
returns c =
    let s = c.args in
    ap (λ (m : ℕ). places m s.places.unplaced) c.with_place.ensures ∙ sym (placed_with s.places s.line s.column (sym c.is_place.ensures ∙ c.if-not-is_place.false))
