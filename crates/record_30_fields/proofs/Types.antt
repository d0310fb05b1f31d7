-- The types of service 04 as bits of one number, by one test computed at every code; and the types of each service.
-- Assumes nothing.
use Prim.Native.Nat.{ℕ, ◌/◌, ◌%◌, ◌^◌, ◌<◌}
use mathlib.Core.Path.{◌≡◌, refl, ap, sym}
use mathlib.Core.Bool.{Bool, true, false, ◌&&◌, ◌||◌, or-false}
use mathlib.Core.List.{[]}
use lib.Dec.{ltb, eqb}
use Rattle.std.specs.Prelude.{if◌then◌else◌}
use Rattle.fields.proofs.Computed.{below, below_at, alike, alike_same}
use Rattle.layout.specs.Rows.{member}
use Rattle.rules.specs.Payments.{types_for, is_type}

in_bits : ℕ → Bool
in_bits t = ltb t 67 && eqb (0x400000210005101E / 2 ^ (t % 64) % 2) 1

bits_right : below (λ t. alike (in_bits t) (member t (types_for 4))) 256 ≡ true
unfolding member below alike in_bits
bits_right = refl

pub types_by_bits : (t : ℕ) → t < 256 → (ltb t 67 && eqb (0x400000210005101E / 2 ^ (t % 64) % 2) 1) ≡ member t (types_for 4)
unfolding in_bits
types_by_bits t h = alike_same (in_bits t) (member t (types_for 4)) (below_at (λ t. alike (in_bits t) (member t (types_for 4))) 256 bits_right t h)

pub types01 : (s t : ℕ) → eqb s 1 ≡ true → (eqb t 2 || eqb t 3) ≡ is_type s t
unfolding is_type member
types01 s t h = rw h (ap (λ (x : Bool). eqb t 2 || x) (sym (or-false (eqb t 3))))

pub types04 : (s t : ℕ) → eqb s 1 ≡ false → (eqb s 4 && member t (types_for 4)) ≡ is_type s t
unfolding is_type member
types04 s t h = rw h (go (eqb s 4))
  where
    go : (b : Bool) → (b && member t (types_for 4)) ≡ member t (if b then types_for 4 else [])
    go true = refl
    go false = refl
