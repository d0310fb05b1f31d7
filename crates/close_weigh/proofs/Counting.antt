-- The count of records that open an assignment.
-- Assumes nothing.
use Prim.Native.Nat.{ℕ, ◌+◌, ◌/◌, ◌≤◌}
use mathlib.Core.Path.{◌≡◌, refl}
use mathlib.Core.List.{List, [], ◌∷◌}
use mathlib.Core.Bool.{Bool, true, false, cond}
use native.Mathlib.Omega.{arith}
use lib.ListN.{length}
use Rattle.std.specs.Prelude.{if◌then◌else◌}
use Rattle.std.specs.List.{filter}
use Rattle.laws.proofs.Bytes.{record_count}
use Rattle.limits.specs.Limits.{record_bytes}
use Rattle.operations.specs.Closing.{opens, openings}
use Rattle.rules.specs.Run.{records_of}

pub openings_filter : (rs : List (List ℕ)) → length (filter opens rs) ≡ openings rs
unfolding openings
openings_filter [] = refl
openings_filter (r ∷ rs) = go (opens r) (openings_filter rs)
  where
    go : (b : Bool) → length (filter opens rs) ≡ openings rs → length (cond b (r ∷ filter opens rs) (filter opens rs)) ≡ (if b then 1 else 0) + openings rs
    go true h = omega arith
    go false h = omega arith

-- no more than records
pub openings_few : (rs : List (List ℕ)) → openings rs ≤ length rs
unfolding openings
openings_few [] = omega arith
openings_few (r ∷ rs) = go (opens r) (openings_few rs)
  where
    go : (b : Bool) → openings rs ≤ length rs → (if b then 1 else 0) + openings rs ≤ length (r ∷ rs)
    go true h = omega arith
    go false h = omega arith

pub few_opened : (d : List ℕ) (n : ℕ) → n ≡ openings (records_of d) → n ≤ length d / record_bytes
few_opened d n e = omega (arith, e, openings_few (records_of d), record_count d)
