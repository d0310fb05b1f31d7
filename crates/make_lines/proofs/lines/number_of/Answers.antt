-- A digit more, and none left.
-- Assumes nothing.
use mathlib.Core.Path.{sym, ◌∙◌}
use native.Mathlib.Omega.{arith}
use Rattle.make_lines.proofs.Numbers.{capped_next, capped_end, capped_most}
use Rattle.make_lines.proofs.lines.number_of.Goals as goal

pub loop-b-preserved : goal.loop-b-preserved
loop-b-preserved c = (rw c.more-n.ensures (capped_most _), capped_next c.loop-b.n c.args.s.now c.loop-b.b-index _ c.more-n.ensures (omega arith) ∙ c.loop-b.invariant.1)

pub returns : goal.returns
returns c = sym (capped_end c.loop-b.n c.args.s.now c.loop-b.b-index c.loop-b.invariant.0 (omega arith)) ∙ c.loop-b.invariant.1
