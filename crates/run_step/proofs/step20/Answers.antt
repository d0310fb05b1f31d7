-- The step of a record 20: what its check found, its key in the slot that there is room for, and the figures of what it ends.
-- Assumes nothing.
use Prim.Native.Nat.{ℕ}
use mathlib.Core.Path.{ap, ◌∙◌}
use mathlib.Core.List.{[], ◌∷◌}
use native.Mathlib.Omega.{arith}
use Rattle.rules.specs.declared.Kind.TheVariants.{R20}
use Rattle.run_figures.specs.Slots.{put_from}
use Rattle.run_figures.proofs.Slots.{put_one}
use Rattle.run_step.specs.Took.{ended_by, on_next}
use Rattle.run_step.proofs.Steps.{stop_at, next_at, holds_at, value_at, slot_held, took_stop}
use Rattle.run_step.proofs.Bounds.{no_window}
use Rattle.run_step.proofs.step20.Goals as goal

pub returns-in_err-key : goal.returns-in_err-key
returns-in_err-key c = λ w.
    let a = c.args in
    took_stop _ R20 a.st a.r.now a.keys.now a.figures.now c.from_residual.result c.in_err-key.field-0.0 (grind arith)
    (stop_at R20 w a.st _ a.r.now _ c.check20.ensures c.in_err-key.was)

pub bounds-keys-before : goal.bounds-keys-before
bounds-keys-before c =
    let a = c.args in
    let room = slot_held a.st.file _ a.r.now a.st.assignment (holds_at R20 no_window a.st _ a.r.now _ c.check20.ensures c.in_ok-key.was) in
    omega (arith, room, c.requires.slots)

pub returns : goal.returns
unfolding on_next ended_by
returns c = λ w.
    let a = c.args in
    let was = c.in_ok-key.was in
    let room = slot_held a.st.file _ a.r.now a.st.assignment (holds_at R20 w a.st _ a.r.now _ c.check20.ensures was) in
    record {
      step = next_at R20 w a.st _ a.r.now _ c.check20.ensures was _ (λ e. simp (c.with_assignment.ensures, c.open_for.ensures, c.service_for.ensures, c.code_at.ensures));
      keyed =
          put_one a.st.file.assignments.0 _ a.keys.now (omega (arith, room, c.requires.slots))
          ∙ ap (λ (v : ℕ). put_from a.st.file.assignments.0 (v ∷ []) a.keys.now) (value_at R20 w a.st _ a.r.now _ c.check20.ensures was);
      figured = c.keep_figures.ensures;
    }
