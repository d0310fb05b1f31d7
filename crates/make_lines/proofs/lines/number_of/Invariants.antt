-- The digits so far are the cap at most; the others make the same number of it.
-- Assumes nothing.
use Prim.Native.Nat.{◌≤◌}
use mathlib.Core.Path.{◌≡◌}
use lib.ListN.{drop}
use Rattle.fields.specs.Numbers.{value, value_from}
use Rattle.make_lines.specs.Lines.{cap, capped}
use Rattle.make_lines.proofs.lines.number_of.Given as goal

abbrev pub invariant-loop-b : goal.invariant-loop-b
invariant-loop-b l = (l.n ≤ cap) × (capped (value_from l.n (drop l.b-index l.s)) ≡ capped (value l.s))
