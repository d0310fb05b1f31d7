use mathlib.Core.Path.{refl}
use native.Mathlib.Omega.{arith}
use Rattle.tool_walk.proofs.Grow.{at_next, at_end}
use Rattle.tool_walk.proofs.seen_in.Goals as goal

pub loop-r-preserved : goal.loop-r-preserved
loop-r-preserved c = at_next _ _ _ _ _ _ c.loop-r.invariant (omega arith) refl c.grown.ensures c.unwrap_or-seen.ensures

pub returns : goal.returns
returns c = rw (← c.records_of-r-items.ensures.are) (at_end _ _ _ c.loop-r.invariant (omega arith))
