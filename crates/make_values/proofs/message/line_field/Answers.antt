-- Field 6 in service 04, else 7.
-- Assumes nothing.
use native.Mathlib.Omega.{arith}
use borrow.Author.Tests.{eq-eqb, ne_eqb}
use Rattle.rules.specs.Fields.{message_of}
use Rattle.make_values.proofs.message.line_field.Goals as goal

pub returns-then-service-eq4 : goal.returns-then-service-eq4
unfolding message_of
returns-then-service-eq4 c = (simp (eq-eqb _ _ c.if-service-eq4.true), omega arith)

pub returns : goal.returns
unfolding message_of
returns c = (simp (ne_eqb _ _ c.if-service-eq4.false), omega arith)
