-- The step of a record 10: what its check found, and nothing but itself behind it.
-- Assumes nothing.
use native.Mathlib.Omega.{arith}
use mathlib.Core.Path.{◌∙◌}
use Rattle.rules.specs.declared.Kind.TheVariants.{R10}
use Rattle.run_step.proofs.Steps.{alone, stop_at, next_at}
use Rattle.run_step.proofs.step10.Goals as goal

pub returns-in_err-check10 : goal.returns-in_err-check10
returns-in_err-check10 c = λ w ks.
    let a = c.args in
    grind (arith, stop_at R10 w a.st ks a.r.now _ (c.check10.ensures a.st.file ks ∙ alone _) c.in_err-check10.was)

pub returns : goal.returns
returns c = λ w ks.
    let a = c.args in
    next_at R10 w a.st ks a.r.now _ (c.check10.ensures a.st.file ks ∙ alone _) c.in_ok-check10.was _ (λ e. simp (c.with_record.ensures, c.before_assignments.ensures))
