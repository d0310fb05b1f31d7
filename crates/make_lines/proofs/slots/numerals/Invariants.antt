-- The values in turn, each with its slot.
-- Assumes nothing.
use mathlib.Core.Path.{◌≡◌}
use lib.ListN.{drop}
use Rattle.make_lines.specs.Draft.{numerals, given_in}
use Rattle.make_lines.proofs.slots.numerals.Given as goal

abbrev pub invariant-loop-i : goal.invariant-loop-i
invariant-loop-i l = numerals (drop l.i l.slots) (drop l.i (given_in l.line)) ≡ numerals l.slots (given_in l.line)
