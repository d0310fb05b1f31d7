-- Every byte of a field, and two fields byte by byte: one byte more, none left, and what the whole says of each.
-- Assumes nothing.
use Prim.Native.Nat.{ℕ, zero, suc, ◌+◌, ◌≤◌, ◌<◌}
use mathlib.Core.Path.{◌≡◌, refl, ap, ap₂}
use mathlib.Core.List.{List, [], ◌∷◌}
use mathlib.Core.Bool.{Bool, true, ◌&&◌, false≢true}
use native.Mathlib.Numerals.{add-one}
use native.Mathlib.Nat.{not-suc-le-zero, le_of_suc-le-suc}
use native.Mathlib.Omega.{arith}
use borrow.Author.Tests.{leb-true, le-leb, eqb-true, eq-eqb}
use lib.Dec.{leb, eqb}
use lib.ListN.{length, get_or, drop, drop_of_length-le}
use lib.Seq.{drop-cons}
use Rattle.std.specs.Str.{bytes_eq}
use Rattle.field_bytes.specs.Bytes.{every, same, is_digit}
use Rattle.field_bytes.proofs.Tests.{and_left, and_right, and_both, one_more, none_left}

module _ (f : ℕ → Bool) (s : List ℕ) (i : ℕ) where
  pub every_next : i < length s → f (get_or s i 0) && every f (drop (i + 1) s) ≡ every f (drop i s)
  unfolding every
  every_next h = rw (add-one, drop-cons s i 0 h)

  pub every_end : length s ≤ i → every f (drop i s) ≡ true
  unfolding every
  every_end h = rw (drop_of_length-le s h)

-- what holds of every byte holds of each
pub every_at : (f : ℕ → Bool) (s : List ℕ) (i : ℕ) → every f s ≡ true → i < length s → f (get_or s i 0) ≡ true
unfolding every
every_at f [] i h k = absurd (not-suc-le-zero k)
every_at f (b ∷ s) zero h k = and_left (f b) (every f s) h
every_at f (b ∷ s) (suc i) h k = every_at f s i (and_right (f b) (every f s) h) (le_of_suc-le-suc k)

module _ (s t : List ℕ) (i : ℕ) where
  pub same_next : i < length s → i < length t
      → eqb (get_or s i 0) (get_or t i 0) && same (drop (i + 1) s) (drop (i + 1) t) ≡ same (drop i s) (drop i t)
  unfolding same
  same_next h k = rw (add-one, drop-cons s i 0 h, drop-cons t i 0 k)

  pub same_end : length s ≤ i → length t ≤ i → same (drop i s) (drop i t) ≡ true
  unfolding same
  same_end h k = rw (drop_of_length-le s h, drop_of_length-le t k)

-- the test of sameness is the library's
pub same_eq : (s t : List ℕ) → bytes_eq s t ≡ same s t
unfolding same
same_eq [] [] = refl
same_eq [] (b ∷ t) = refl
same_eq (a ∷ s) [] = refl
same_eq (a ∷ s) (b ∷ t) = ap (λ (x : Bool). eqb a b && x) (same_eq s t)

-- two fields of two bytes, by their bytes
pub same_two : (s t : List ℕ) → length s ≡ 2 → length t ≡ 2 → eqb (get_or s 0 0) (get_or t 0 0) && eqb (get_or s 1 0) (get_or t 1 0) ≡ same s t
same_two s t h k =
    none_left _ _ _ (same_end s t 2 (omega arith) (omega arith))
    (one_more (eqb (get_or s 0 0) (get_or t 0 0)) (eqb (get_or s 1 0) (get_or t 1 0)) _ _ _ (same_next s t 1 (omega arith) (omega arith)) (same_next s t 0 (omega arith) (omega arith)))

-- the test of sameness means what it says
pub same_is : (s t : List ℕ) → same s t ≡ true → s ≡ t
unfolding same
same_is [] [] h = refl
same_is [] (b ∷ t) h = absurd (false≢true h)
same_is (a ∷ s) [] h = absurd (false≢true h)
same_is (a ∷ s) (b ∷ t) h =
    ap₂ ◌∷◌ (eqb-true a b (and_left (eqb a b) (same s t) h)) (same_is s t (and_right (eqb a b) (same s t) h))

pub same_self : (s : List ℕ) → same s s ≡ true
unfolding same
same_self [] = refl
same_self (a ∷ s) = and_both (eqb a a) (same s s) (eq-eqb a a refl) (same_self s)

-- a digit's bounds
pub digit_low : (b : ℕ) → is_digit b ≡ true → 48 ≤ b
digit_low b h = leb-true 48 b (and_left (leb 48 b) (leb b 57) h)

pub digit_high : (b : ℕ) → is_digit b ≡ true → b ≤ 57
digit_high b h = leb-true b 57 (and_right (leb 48 b) (leb b 57) h)

pub digit_is : (b : ℕ) → 48 ≤ b → b ≤ 57 → is_digit b ≡ true
digit_is b h k = and_both (leb 48 b) (leb b 57) (le-leb 48 b h) (le-leb b 57 k)

pub digit_at : (s : List ℕ) (i : ℕ) → every is_digit s ≡ true → i < length s → (48 ≤ get_or s i 0) × (get_or s i 0 ≤ 57)
digit_at s i h l = let d = every_at is_digit s i h l in (digit_low (get_or s i 0) d, digit_high (get_or s i 0) d)
