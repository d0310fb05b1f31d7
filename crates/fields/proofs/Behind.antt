-- A field that is handed over with bytes before it: without them it is the field.
-- Assumes nothing.
use Prim.Native.Nat.{ℕ, zero, suc, ◌+◌, ◌-◌}
use mathlib.Core.Path.{◌≡◌, ap, ap₂, sym, ◌∙◌}
use mathlib.Core.List.{List, [], ◌∷◌}
use native.Mathlib.Nat.{suc-sub-suc, sub-zero}
use native.Mathlib.Omega.{arith}
use lib.ListN.{take, drop}
use lib.Seq.{drop-drop, take-nil}
use Rattle.field_bytes.specs.Bytes.{part}

taken_behind : (k n : ℕ) (l : List ℕ) → drop k (take n l) ≡ take (n - k) (drop k l)
taken_behind zero n l = ap (λ (m : ℕ). take m l) (sym (sub-zero n))
taken_behind (suc k) zero l = let e : zero ≡ zero - suc k = omega arith in ap (λ (m : ℕ). take m (drop (suc k) l)) e
taken_behind (suc k) (suc n) [] = sym (take-nil (suc n - suc k))
taken_behind (suc k) (suc n) (b ∷ l) = taken_behind k n l ∙ ap (λ (m : ℕ). take m (drop k l)) (sym (suc-sub-suc n k))

pub field_behind : (k i from to : ℕ) (r : List ℕ) → i + k + 1 ≡ from → drop k (take (to - i) (drop i r)) ≡ part from to r
field_behind k i from to r h =
    let e : to - i - k ≡ to - (from - 1) = omega arith in
    let f : i + k ≡ from - 1 = omega arith in
    taken_behind k (to - i) (drop i r) ∙ ap₂ take e (drop-drop k i r ∙ ap (λ (j : ℕ). drop j r) f)
