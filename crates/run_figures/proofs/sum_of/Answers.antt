use Rattle.run_figures.proofs.Adding.{adding_none, added_all, has_room, adding_next}
use native.Mathlib.Omega.{arith}
use Rattle.run_figures.proofs.sum_of.Goals as goal

pub loop-j-init : goal.loop-j-init
loop-j-init c = adding_none _ _ _ _ c.none-sum.ensures

pub plus-sum-requires : goal.plus-sum-requires
plus-sum-requires c = has_room _ _ _ _ _ c.loop-j.invariant (omega arith) _ c.figures_at.ensures c.requires

pub loop-j-preserved : goal.loop-j-preserved
loop-j-preserved c = adding_next _ _ _ _ _ c.loop-j.invariant (omega arith) _ c.figures_at.ensures _ c.plus-sum.ensures

pub returns : goal.returns
returns c = added_all _ _ _ _ _ c.loop-j.invariant (omega arith)
