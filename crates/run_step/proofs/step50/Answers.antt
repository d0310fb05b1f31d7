-- The step of a record 50: what its check found, and its amount in the group.
-- Assumes nothing.
use Prim.Native.Nat.{ℕ}
use native.Mathlib.Omega.{arith}
use mathlib.Core.Path.{ap, ap₂, ◌∙◌}
use mathlib.Core.List.{[]}
use Rattle.figures.specs.declared.amounts.Amount.{Amount}
use Rattle.figures.specs.declared.groups.Group.{Group}
use Rattle.rules.specs.Growth.{grouped_as}
use Rattle.rules.specs.declared.Kind.TheVariants.{R50}
use Rattle.run_step.specs.Passed.{passed_on}
use Rattle.run_step.proofs.Steps.{stop_at, next_at, holds_at, value_at}
use Rattle.run_step.proofs.Bounds.{no_window, specifies, within_by}
use Rattle.run_step.proofs.step50.Goals as goal

pub returns-in_err-amount : goal.returns-in_err-amount
returns-in_err-amount c = λ w ks.
    let a = c.args in
    grind (arith, stop_at R50 w a.st ks a.r.now _ (c.check50.ensures a.st.file ks) c.in_err-amount.was)

pub group_with-group-requires : goal.group_with-group-requires
group_with-group-requires c =
    let a = c.args in
    let found = c.check50.ensures a.st.file [] in
    let was = c.in_ok-amount.was in (
      c.requires.specified,
      c.requires.credited,
      within_by _ (ap (λ (x : Amount). x.0) (value_at R50 no_window a.st [] a.r.now _ found was)) (specifies a.st.file [] a.st.assignment a.r.now (holds_at R50 no_window a.st [] a.r.now _ found was)),
    )

pub returns : goal.returns
returns c = λ w ks.
    let a = c.args in
    next_at R50 w a.st ks a.r.now _ (c.check50.ensures a.st.file ks) c.in_ok-amount.was _
    (λ e.
    c.pass_with.ensures
    ∙ ap (λ (g : Group). passed_on R50 g a.st.assignment.places a.st) (c.group_with-group.ensures ∙ ap₂ (λ (t : ℕ) (x : Amount). grouped_as t x a.st.assignment.group) c.code_at.ensures e))
