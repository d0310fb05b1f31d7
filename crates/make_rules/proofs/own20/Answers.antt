-- Fields 1 to 3, the key, the account and zeros.
-- Assumes nothing.
use Rattle.std.proofs.Common.{arith}
use Rattle.layout.specs.Rows.{first_fault}
use Rattle.rules.specs.Alone.{own_table, own_rows}
use Rattle.make_rules.proofs.own20.Goals as goal

pub returns-in_err-head : goal.returns-in_err-head
unfolding own_table own_rows first_fault
returns-in_err-head c = λ f ks. grind (arith, c.head.ensures f ks)

pub returns-in_err-key : goal.returns-in_err-key
unfolding own_table own_rows first_fault
returns-in_err-key c = λ f ks. grind (arith, c.head.ensures f ks, c.key.ensures f ks)

pub returns : goal.returns
unfolding own_table own_rows first_fault
returns c = λ f ks. grind (arith, c.head.ensures f ks, c.key.ensures f ks, c.tail.ensures f ks)
