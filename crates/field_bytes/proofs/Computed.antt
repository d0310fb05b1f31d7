-- A test that is computed at every number below a bound holds of each.
-- Assumes nothing.
use Prim.Native.Nat.{ℕ, zero, suc, ◌<◌}
use mathlib.Core.Path.{◌≡◌, refl, ap, sym, ◌∙◌}
use mathlib.Core.Bool.{Bool, true, false, not, ◌&&◌}
use native.Mathlib.Nat.{not-suc-le-zero}
use native.Mathlib.Omega.{arith}
use borrow.Author.Tests.{eqb-true, eqb-false}
use lib.Bits.{bit_and}
use lib.Dec.{eqb}
use Rattle.field_bytes.specs.Bytes.{is_text}
use Rattle.field_bytes.proofs.Tests.{and_left, and_right}

-- a test holds at every number below n
unfoldable pub below : (ℕ → Bool) → ℕ → Bool
below f zero = true
below f (suc n) = f n && below f n

pub below_at : (f : ℕ → Bool) (n : ℕ) → below f n ≡ true → (k : ℕ) → k < n → f k ≡ true
unfolding below
below_at f zero t k h = absurd (not-suc-le-zero h)
below_at f (suc n) t k h = go (eqb k n) refl (λ l. below_at f n (and_right (f n) (below f n) t) k l)
  where
    go : (b : Bool) → eqb k n ≡ b → (k < n → f k ≡ true) → f k ≡ true
    go true e ih = ap f (eqb-true k n e) ∙ and_left (f n) (below f n) t
    go false e ih = let d = eqb-false k n e in ih (omega (arith, d))

-- two truth values are the same
unfoldable pub alike : Bool → Bool → Bool
alike true b = b
alike false true = false
alike false false = true

pub alike_same : (a b : Bool) → alike a b ≡ true → a ≡ b
unfolding alike
alike_same true true h = refl
alike_same true false h = sym h
alike_same false true h = h
alike_same false false h = refl

-- Text by its bits
by_bits : ℕ → Bool
by_bits b = not (eqb (bit_and b 0x60) 0) && not (eqb b 127)

bits_right : below (λ b. alike (by_bits b) (is_text b)) 256 ≡ true
unfolding below alike by_bits
bits_right = refl

pub text_by_bits : (b : ℕ) → b < 256 → (not (eqb (bit_and b 0x60) 0) && not (eqb b 127)) ≡ is_text b
unfolding by_bits
text_by_bits b h = alike_same (by_bits b) (is_text b) (below_at (λ b. alike (by_bits b) (is_text b)) 256 bits_right b h)
