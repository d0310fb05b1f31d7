-- What is left stands at the end of the line, and the value looked for is found in it.
-- Assumes nothing.
use Prim.Native.Nat.{◌-◌, ◌≤◌}
use mathlib.Core.Path.{◌≡◌}
use lib.ListN.{length, drop}
use Rattle.make_lines.specs.Lines.{from_value}
use Rattle.make_lines.proofs.lines.value_start.Given as goal

abbrev pub invariant-loop-k : goal.invariant-loop-k
invariant-loop-k l = (length l.rest ≤ length l.line) × (drop (length l.line - length l.rest) l.line ≡ l.rest) × (from_value (l.i - l._k) l.rest ≡ from_value l.i l.line)
