use Prim.Native.Nat.{◌-◌}
use mathlib.Core.Path.{◌≡◌}
use mathlib.Core.Bool.{◌&&◌}
use lib.ListN.{drop}
use Rattle.field_references.specs.OnTheWay.{joins, chain}
use Rattle.field_references.proofs.runs_to.Given as goal

abbrev pub invariant-loop-i : goal.invariant-loop-i
invariant-loop-i l = l.ok && chain (joins l.side) (drop (l.i - 1) l.s) ≡ chain (joins l.side) l.s
