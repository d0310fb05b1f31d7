-- What every byte of a field is, every byte of a smaller field within it is.
-- Assumes nothing.
use Prim.Native.Nat.{ℕ, zero, suc, ◌+◌, ◌≤◌}
use mathlib.Core.Path.{◌≡◌, refl, sym, ◌∙◌, ap}
use mathlib.Core.List.{List, [], ◌∷◌}
use mathlib.Core.Bool.{Bool, true}
use native.Mathlib.Omega.{arith}
use lib.ListN.{take, drop}
use Rattle.field_bytes.specs.Bytes.{every}
use Rattle.field_bytes.proofs.Tests.{and_left, and_right, and_both}

nothing : (n k : ℕ) → ◌≡◌ {A = List ℕ} (take n (drop k [])) []
nothing zero zero = refl
nothing zero (suc k) = refl
nothing (suc n) zero = refl
nothing (suc n) (suc k) = refl

module _ (f : ℕ → Bool) where
  none_fails : every f [] ≡ true
  unfolding every
  none_fails = refl

  first : (n m : ℕ) (s : List ℕ) → n ≤ m → every f (take m s) ≡ true → every f (take n s) ≡ true
  unfolding every
  first zero m s h e = refl
  first (suc n) m [] h e = refl
  first (suc n) zero (b ∷ s) h e = absurd (omega arith)
  first (suc n) (suc m) (b ∷ s) h e =
      let g : n ≤ m = omega arith in
      and_both (f b) (every f (take n s)) (and_left (f b) (every f (take m s)) e) (first n m s g (and_right (f b) (every f (take m s)) e))

  behind : (d n m : ℕ) (s : List ℕ) → d + n ≤ m → every f (take m s) ≡ true → every f (take n (drop d s)) ≡ true
  unfolding every
  behind zero n m s h e = let g : n ≤ m = omega arith in first n m s g e
  behind (suc d) zero m [] h e = refl
  behind (suc d) (suc n) m [] h e = refl
  behind (suc d) n zero (b ∷ s) h e = absurd (omega arith)
  behind (suc d) n (suc m) (b ∷ s) h e = let g : d + n ≤ m = omega arith in behind d n m s g (and_right (f b) (every f (take m s)) e)

  -- n bytes behind the first k + d are among the m behind the first k
  pub inner : (k d n m : ℕ) (s : List ℕ) → d + n ≤ m → every f (take m (drop k s)) ≡ true → every f (take n (drop (k + d) s)) ≡ true
  inner zero d n m s h e = let z : d ≡ 0 + d = omega arith in ap (λ (x : ℕ). every f (take n (drop x s))) (sym z) ∙ behind d n m s h e
  inner (suc k) d n m [] h e = ap (every f) (nothing n (suc k + d)) ∙ none_fails
  inner (suc k) d n m (b ∷ s) h e = let z : suc k + d ≡ suc (k + d) = omega arith in ap (λ (x : ℕ). every f (take n (drop x (b ∷ s)))) z ∙ inner k d n m s h e
