-- The first bytes are copied, and the rest is as it was.
-- Assumes nothing.
use Prim.Native.Nat.{◌≤◌}
use lib.ListN.{length, take}
use Rattle.field_texts.proofs.Wrote.{Wrote}
use Rattle.field_texts.proofs.copy_to.Given as goal

abbrev pub invariant-loop-i : goal.invariant-loop-i
invariant-loop-i l = (length l.bytes ≤ length l.initial.out) × Wrote (take l.i l.bytes) l.initial.out l.out
