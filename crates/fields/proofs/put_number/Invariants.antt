use Prim.Native.Nat.{◌-◌, ◌/◌, ◌^◌}
use mathlib.Core.Path.{◌≡◌}
use lib.ListN.{length, drop}
use Rattle.field_digits.specs.Numbers.{written}
use Rattle.fields.proofs.put_number.Given as goal

abbrev pub invariant-loop-i : goal.invariant-loop-i
invariant-loop-i l = (l.rest ≡ l.n / 10 ^ (length l.initial.out - l.i)) × (drop l.i l.out ≡ drop l.i (written (length l.initial.out) l.n))
