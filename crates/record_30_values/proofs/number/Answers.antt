-- Field 5: its digits, and that they follow the number before.
-- Assumes nothing.
use Rattle.std.proofs.Common.{arith}
use Rattle.layout.specs.Rows.{first_fault}
use Rattle.record_30_values.proofs.number.Goals as goal

pub returns-in_err-number : goal.returns-in_err-number
unfolding first_fault
returns-in_err-number c = λ f ks. grind (arith, c.transaction_number.ensures f ks)

pub returns-in_err-demand : goal.returns-in_err-demand
unfolding first_fault
returns-in_err-demand c = λ f ks. grind (arith, c.transaction_number.ensures f ks)

pub returns : goal.returns
unfolding first_fault
returns c = λ f ks. grind (arith, c.transaction_number.ensures f ks)
