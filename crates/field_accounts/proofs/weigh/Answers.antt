use mathlib.Core.Path.{ap}
use native.Mathlib.Omega.{arith}
use Rattle.field_accounts.specs.Accounts.{weights}
use Rattle.field_accounts.specs.OnTheWay.{weighed}
use Rattle.field_bytes.proofs.Listed.{one_by_one, listed}
use Rattle.field_accounts.proofs.weigh.Goals as goal

pub returns : goal.returns
unfolding weighed one_by_one
returns c =
    let l = ap (weighed weights) (listed c.args.s.now 11 c.requires) in
    omega (arith, l, c.from.ensures, c.from-2.ensures, c.from-3.ensures, c.from-4.ensures, c.from-5.ensures, c.from-6.ensures, c.from-7.ensures, c.from-8.ensures, c.from-9.ensures, c.from-10.ensures)
