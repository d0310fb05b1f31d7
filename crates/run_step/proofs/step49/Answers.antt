-- The step of a record 49: what its check found, and the places that it brought.
-- Assumes nothing.
use native.Mathlib.Omega.{arith}
use mathlib.Core.Path.{ap, ◌∙◌}
use Rattle.rules.specs.declared.Kind.TheVariants.{R49}
use Rattle.rules.specs.declared.Places.{Places}
use Rattle.run_step.specs.Passed.{passed_on}
use Rattle.run_step.proofs.Steps.{stop_at, next_at}
use Rattle.run_step.proofs.step49.Goals as goal

pub returns-in_err-places : goal.returns-in_err-places
returns-in_err-places c = λ w ks.
    let a = c.args in
    grind (arith, stop_at R49 w a.st ks a.r.now _ (c.check49.ensures a.st.file ks) c.in_err-places.was)

pub returns : goal.returns
returns c = λ w ks.
    let a = c.args in
    next_at R49 w a.st ks a.r.now _ (c.check49.ensures a.st.file ks) c.in_ok-places.was _
    (λ e. c.pass_with.ensures ∙ ap (λ (p : Places). passed_on R49 a.st.assignment.group p a.st) e)
