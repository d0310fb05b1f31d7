-- Record 10.
-- Assumes nothing.
use Rattle.rules.specs.Alone.{own_table, own_rows}
use Rattle.make_rules.proofs.own10.Goals as goal

pub returns : goal.returns
unfolding own_table own_rows
returns c = λ f ks. c.check10.ensures f ks
