-- A byte more, and none left.
-- Assumes nothing.
use mathlib.Core.Path.{refl}
use native.Mathlib.Omega.{arith}
use lib.ListN.{take}
use lib.Seq.{take_all}
use Rattle.field_texts.proofs.Wrote.{wrote_none, wrote_length, copied_more, told}
use Rattle.field_texts.proofs.copy_to.Goals as goal

pub loop-i-init : goal.loop-i-init
loop-i-init c = (c.requires, wrote_none _)

pub bounds-out-i : goal.bounds-out-i
bounds-out-i c = omega (arith, wrote_length _ _ _ c.loop-i.invariant.1)

pub loop-i-preserved : goal.loop-i-preserved
loop-i-preserved c = (c.loop-i.invariant.0, copied_more _ _ _ c.loop-i.i (omega arith) c.loop-i.invariant.0 c.loop-i.invariant.1)

pub shape_of-out : goal.shape_of-out
shape_of-out c = wrote_length _ _ _ c.loop-i.invariant.1

pub returns : goal.returns
returns c = told (take c.loop-i.i c.args.bytes.now) c.args.bytes.now c.args.out.now _ _ c.loop-i.invariant.1 (take_all c.loop-i.i c.args.bytes.now (omega arith)) refl
