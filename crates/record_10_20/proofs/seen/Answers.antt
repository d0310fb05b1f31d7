use Rattle.std.proofs.Common.{arith}
use Rattle.record_10_20.proofs.Laws.{member_next, member_end}
use Rattle.record_10_20.proofs.seen.Goals as goal

pub loop-other-preserved : goal.loop-other-preserved
loop-other-preserved c = grind (arith, member_next c.args.key c.args.keys.now c.loop-other.other-index, c.loop-other.invariant)

pub returns : goal.returns
returns c = grind (arith, member_end c.args.key c.args.keys.now c.loop-other.other-index, c.loop-other.invariant)
