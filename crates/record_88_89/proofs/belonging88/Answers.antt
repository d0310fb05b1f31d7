-- Fields 1 to 3 of record 88, behind the group before it.
-- Assumes nothing.
use Rattle.std.proofs.Common.{arith}
use Rattle.layout.specs.Rows.{first_fault}
use Rattle.record_88_89.proofs.belonging88.Goals as goal

pub returns-in_err-demand : goal.returns-in_err-demand
unfolding first_fault
returns-in_err-demand c = λ f ks. grind arith

pub returns-in_err-belonging : goal.returns-in_err-belonging
unfolding first_fault
returns-in_err-belonging c = λ f ks. grind (arith, c.belonging.ensures f ks)

pub returns : goal.returns
unfolding first_fault
returns c = λ f ks. grind (arith, c.belonging.ensures f ks)
