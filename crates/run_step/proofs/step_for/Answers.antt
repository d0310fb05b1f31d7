-- The step of each record type. Only a record 20 writes to the keys and the figures.
-- Assumes nothing.
use mathlib.Core.Path.{refl, ◌∙◌}
use Rattle.rules.specs.declared.Kind.TheVariants.{R10, R30, R31, R40, R41, R49, R50, R88, R89}
use Rattle.run_step.proofs.Steps.{behind, took_on}
use Rattle.run_step.proofs.step_for.Goals as goal

pub returns-in-R30 : goal.returns-in-R30
returns-in-R30 c = rw c.in-R30.is (took_on _ R30 _ _ _ _ _ refl (c.step30.ensures _))

pub returns-in-R31 : goal.returns-in-R31
returns-in-R31 c = let a = c.args in rw c.in-R31.is (took_on _ R31 _ _ _ _ _ refl (c.pass_on.ensures ∙ behind R31 a.w a.st _ a.r.now (c.check31.ensures a.st.file _)))

pub returns-in-R40 : goal.returns-in-R40
returns-in-R40 c = let a = c.args in rw c.in-R40.is (took_on _ R40 _ _ _ _ _ refl (c.pass_on-in-R40.ensures ∙ behind R40 a.w a.st _ a.r.now (c.check40.ensures a.st.file _)))

pub returns-in-R41 : goal.returns-in-R41
returns-in-R41 c = let a = c.args in rw c.in-R41.is (took_on _ R41 _ _ _ _ _ refl (c.pass_on-in-R41.ensures ∙ behind R41 a.w a.st _ a.r.now (c.check41.ensures a.st.file _)))

pub returns-in-R88 : goal.returns-in-R88
returns-in-R88 c = let a = c.args in rw c.in-R88.is (took_on _ R88 _ _ _ _ _ refl (c.pass_on-in-R88.ensures ∙ behind R88 a.w a.st _ a.r.now (c.check88.ensures a.st.file _)))

pub returns-in-R89 : goal.returns-in-R89
returns-in-R89 c = let a = c.args in rw c.in-R89.is (took_on _ R89 _ _ _ _ _ refl (c.pass_on-in-R89.ensures ∙ behind R89 a.w a.st _ a.r.now (c.check89.ensures _)))

pub returns-in-R49 : goal.returns-in-R49
returns-in-R49 c = rw c.in-R49.is (took_on _ R49 _ _ _ _ _ refl (c.step49.ensures _ _))

pub returns-in-R50 : goal.returns-in-R50
returns-in-R50 c = rw c.in-R50.is (took_on _ R50 _ _ _ _ _ refl (c.step50.ensures _ _))

pub returns-in-R20 : goal.returns-in-R20
returns-in-R20 c = rw c.in-R20.is (c.step20.ensures _)

pub returns-in-R10 : goal.returns-in-R10
returns-in-R10 c = rw c.in-R10.is (took_on _ R10 _ _ _ _ _ refl (c.step10.ensures _ _))
