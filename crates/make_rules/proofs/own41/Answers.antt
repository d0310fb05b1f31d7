-- Record 41.
-- Assumes nothing.
use Rattle.rules.specs.Alone.{own_table, own_rows}
use Rattle.rules.specs.Codes.{type_code}
use Rattle.rules.specs.Layouts.{address41}
use Rattle.make_rules.specs.Pieces.{headed}
use Rattle.make_rules.proofs.Chains.{both}
use Rattle.make_rules.proofs.own41.Goals as goal

pub returns : goal.returns
unfolding own_table own_rows
returns c = λ f ks.
    let r = c.args.r.now in
    both f ks r (headed r) (address41 (type_code r)) c.and.ensures (c.heading.ensures f ks) (c.second_address-own.ensures f ks)
