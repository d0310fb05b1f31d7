use Rattle.tool_walk.proofs.Grow.{At}
use Rattle.tool_walk.proofs.seen_in.Given as goal

abbrev pub invariant-loop-r : goal.invariant-loop-r
invariant-loop-r l = At l.r-items l.seen l.r-index
