-- A field by its bytes, one by one.
-- Assumes nothing.
use Prim.Native.Nat.{ℕ, zero, suc, ◌+◌}
use mathlib.Core.Path.{◌≡◌, ap, ◌∙◌}
use mathlib.Core.List.{List, [], ◌∷◌}
use native.Mathlib.Omega.{arith}
use lib.ListN.{length, get_or, drop, drop_of_length-le}
use lib.Seq.{drop-cons}

-- n bytes from place i on, one by one
unfoldable pub one_by_one : List ℕ → ℕ → ℕ → List ℕ
one_by_one s i zero = []
one_by_one s i (suc n) = get_or s i 0 ∷ one_by_one s (suc i) n

placed : (s : List ℕ) (i n : ℕ) → length s ≡ i + n → drop i s ≡ one_by_one s i n
unfolding one_by_one
placed s i zero h = drop_of_length-le s {i = i} (omega arith)
placed s i (suc n) h =
    drop-cons s i 0 (omega arith) ∙ ap (λ (r : List ℕ). get_or s i 0 ∷ r) (placed s (suc i) n (omega arith))

pub listed : (s : List ℕ) (n : ℕ) → length s ≡ n → s ≡ one_by_one s 0 n
listed s n h = placed s 0 n (omega arith)
