-- Field 6: digits, and a date.
-- Assumes nothing.
use Rattle.std.proofs.Common.{arith}
use Rattle.fields.specs.Numbers.{number_of}
use Rattle.layout.specs.Rows.{first_fault}
use Rattle.record_30_values.proofs.Days.{date_read}
use Rattle.make_rules.proofs.date.Goals as goal

pub returns-in_default : goal.returns-in_default
unfolding first_fault number_of
returns-in_default c = λ f ks. grind arith

pub returns : goal.returns
unfolding first_fault
returns c = λ f ks.
    let day = date_read c.args.r.now _ _ c.day_in.result c.told-r c.pairs_at.ensures c.in-Some.is c.day_in.ensures in
    grind (arith, day.0, day.1)
