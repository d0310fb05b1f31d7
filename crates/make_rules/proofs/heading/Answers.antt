-- Fields 1 and 2, the type, the number.
-- Assumes nothing.
use Rattle.std.proofs.Common.{arith}
use Rattle.layout.specs.Rows.{first_fault}
use Rattle.make_rules.proofs.heading.Goals as goal

pub returns-in_err-service : goal.returns-in_err-service
unfolding first_fault
returns-in_err-service c = λ f ks. grind (arith, c.service.ensures f ks)

pub returns-in_err-demand : goal.returns-in_err-demand
unfolding first_fault
returns-in_err-demand c = λ f ks. grind (arith, c.service.ensures f ks)

pub returns-in_err-transaction_number : goal.returns-in_err-transaction_number
unfolding first_fault
returns-in_err-transaction_number c = λ f ks. grind (arith, c.service.ensures f ks, c.transaction_number.ensures f ks)

pub returns : goal.returns
unfolding first_fault
returns c = λ f ks. grind (arith, c.service.ensures f ks, c.transaction_number.ensures f ks)
