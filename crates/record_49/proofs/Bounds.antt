-- A number that was read up to a bound is within it.
-- Assumes nothing.
use Rattle.std.proofs.Common.{Ok}
use Prim.Native.Nat.{ℕ, ◌≤◌}
use mathlib.Core.Path.{◌≡◌}
use mathlib.Core.List.{List}
use native.Mathlib.Omega.{arith}
use Rattle.std.specs.Option.{ok_or}
use Rattle.layout.specs.declared.Fault.{Fault}
use Rattle.record_49.specs.Bounds.{is_up_to, up_to}

pub within : (most : ℕ) (s : List ℕ) (n : ℕ) (e : Fault) → Ok n ≡ ok_or (up_to most s) e → n ≤ most
unfolding up_to is_up_to
within most s n e h = grind arith
