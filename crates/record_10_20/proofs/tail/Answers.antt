-- The account by what it is found to be, then the zeros.
-- Assumes nothing.
use Rattle.std.proofs.Common.{arith}
use Rattle.layout.specs.Rows.{first_fault}
use Rattle.layout.proofs.Accounts.{account_rows}
use Rattle.record_10_20.proofs.tail.Goals as goal

pub returns-in_err-account_found : goal.returns-in_err-account_found
unfolding first_fault
returns-in_err-account_found c = λ f ks. grind (arith, account_rows f ks c.args.r.now 7 25 35)

pub returns : goal.returns
unfolding first_fault
returns c = λ f ks. grind (arith, account_rows f ks c.args.r.now 7 25 35)
