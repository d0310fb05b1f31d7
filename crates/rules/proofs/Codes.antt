-- What a record's code says of its type, and of the keys and assignments that it brings.
-- Assumes nothing.
use Prim.Native.Nat.{ℕ}
use mathlib.Core.Path.{◌≡◌, refl, sym, ap, subst}
use mathlib.Core.List.{List, []}
use mathlib.Core.Bool.{Bool, true, false}
use borrow.Author.Tests.{eqb-true, ne_eqb}
use lib.Dec.{eqb}
use Rattle.rules.specs.Codes.{kind_for}
use Rattle.rules.specs.Growth.{gain_for, keys_for}
use Rattle.rules.specs.declared.Kind.TheVariants.{R20}

-- what holds of a code, and of every other number, holds of all
pub at_code : (P : ℕ → Type 0) (c n : ℕ) → P c → (eqb n c ≡ false → P n) → P n
at_code P c n here other = go (eqb n c) refl
  where
    go : (b : Bool) → eqb n c ≡ b → P n
    go true e = subst P (sym (eqb-true n c e)) here
    go false e = other e

-- what holds of each of the ten codes, and of every number that is none of them, holds of all
pub at_codes : (P : ℕ → Type 0) (n : ℕ) → P 30 → P 31 → P 40 → P 41 → P 49 → P 50 → P 10 → P 20 → P 88 → P 89
    → (eqb n 30 ≡ false → eqb n 31 ≡ false → eqb n 40 ≡ false → eqb n 41 ≡ false → eqb n 49 ≡ false → eqb n 50 ≡ false → eqb n 10 ≡ false → eqb n 20 ≡ false → eqb n 88 ≡ false → eqb n 89 ≡ false → P n)
    → P n
at_codes P n p30 p31 p40 p41 p49 p50 p10 p20 p88 p89 other =
    at_code P 30 n p30 λ a. at_code P 31 n p31 λ b. at_code P 40 n p40 λ c. at_code P 41 n p41 λ d. at_code P 49 n p49 λ e. at_code P 50 n p50 λ f.
    at_code P 10 n p10 λ g. at_code P 20 n p20 λ h. at_code P 88 n p88 λ i. at_code P 89 n p89 λ j. other a b c d e f g h i j

pub twenty : (n : ℕ) → n ≡ 20 → kind_for n ≡ R20
unfolding kind_for
twenty n e = ap kind_for e

-- only code 20 brings a key and an assignment
Alone : List ℕ → ℕ → Type 0
Alone r n = eqb n 20 ≡ false → (keys_for (kind_for n) r ≡ []) × ((gain_for (kind_for n) r).assignments.0 ≡ 0)

pub no_key : (n : ℕ) (r : List ℕ) → (n ≡ 20 → ⊥) → (keys_for (kind_for n) r ≡ []) × ((gain_for (kind_for n) r).assignments.0 ≡ 0)
unfolding kind_for Alone
no_key n r h =
    at_codes (Alone r) n (λ e. (refl, refl)) (λ e. (refl, refl)) (λ e. (refl, refl)) (λ e. (refl, refl)) (λ e. (refl, refl)) (λ e. (refl, refl)) (λ e. (refl, refl)) (λ e. (cc, cc)) (λ e. (refl, refl)) (λ e. (refl, refl))
    (λ a b c d e f g h i j z. (simp (a, b, c, d, e, f, g, h, i, j), simp (a, b, c, d, e, f, g, h, i, j))) (ne_eqb n 20 h)
