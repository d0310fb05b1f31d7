-- Field 9 in three cases: service 01, type 12 of another service, and every other type.
-- Assumes nothing.
use mathlib.Core.Path.{sym}
use borrow.Author.Tests.{ne_eqb}
use Rattle.rules.specs.Payments.{kid_form}
use Rattle.make_rules.proofs.kid.Goals as goal

pub returns-then-all_at : goal.returns-then-all_at
unfolding kid_form
returns-then-all_at c = simp (sym c.all_at.ensures, c.if-all_at.true, sym c.requires, c.if-service-eq1.true)

pub returns-else-all_at : goal.returns-else-all_at
unfolding kid_form
returns-else-all_at c = simp (c.kid_right_at.ensures, sym c.all_at.ensures, c.if-all_at.false, sym c.requires, c.if-service-eq1.true)

pub returns-then-code_at-eq12 : goal.returns-then-code_at-eq12
unfolding kid_form
returns-then-code_at-eq12 c = simp (c.kid_at.ensures, sym c.code_at.ensures, sym c.requires, ne_eqb _ _ c.if-service-eq1.false, c.if-code_at-eq12.true)

pub returns : goal.returns
unfolding kid_form
returns c = simp (c.all_at-2.ensures, sym c.code_at.ensures, sym c.requires, ne_eqb _ _ c.if-service-eq1.false, ne_eqb _ _ c.if-code_at-eq12.false)
