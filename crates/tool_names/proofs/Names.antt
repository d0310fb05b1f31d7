-- A name and its ending in one buffer; seven digits.
-- Assumes nothing.
use Prim.Native.Nat.{ℕ, suc, ◌+◌, ◌-◌, ◌%◌, ◌≤◌, ◌<◌}
use mathlib.Core.Path.{◌≡◌, refl, ◌∙◌}
use mathlib.Core.List.{List, [], ◌∷◌, ◌++◌, append_assoc, append-nil}
use borrow.Rule.Slice.PartMut.{post_of}
use mathlib.Core.Bool.{Bool, true}
use native.Mathlib.Omega.{arith}
use borrow.Author.Tests.{le-leb}
use lib.ListN.{length, get_or, take, drop, length-append, length-drop}
use lib.Seq.{take_at}
use Rattle.std.proofs.lemmas.List.{drop_all}
use Rattle.std.specs.Prelude.{Some}
use Rattle.fields.specs.Bytes.{every, is_digit}
use Rattle.fields.proofs.Tests.{and_both}
use Rattle.tool_names.specs.Names.{longer, ending_of}

-- nothing stands behind all of a list
rest_none : (k : ℕ) (s : List ℕ) → drop (length s - k) (drop k s) ≡ []
rest_none k s = drop_all (length s - k) (drop k s) (omega (arith, length-drop k s))

-- ---- a name and its ending
module _ (room : ℕ) (name ending : List ℕ) where
  pub whole_is : (x y rest : List ℕ) → x ≡ name → y ≡ ending → length name + length ending ≤ room
      → Some (take (length name) (x ++ rest) ++ (y ++ post_of (length name) (length (x ++ rest) - length name) (x ++ rest))) ≡ longer room name ending
  unfolding longer
  whole_is x y rest p q l = simp (rest_none (length name) (name ++ rest), p, q, take_at name rest (length name) refl, append-nil, le-leb _ _ l)

-- ---- seven digits
pub digit_is : (b : ℕ) → is_digit (48 + b % 10) ≡ true
digit_is b = and_both _ _ (le-leb 48 (48 + b % 10) (omega arith)) (le-leb (48 + b % 10) 57 (omega arith))

pub every_of_each : (f : ℕ → Bool) (s : List ℕ) → ((i : ℕ) → i < length s → f (get_or s i 0) ≡ true) → every f s ≡ true
unfolding every
every_of_each f [] h = refl
every_of_each f (b ∷ s) h = and_both _ _ (h 0 (omega arith)) (every_of_each f s (λ i l. h (suc i) (omega arith)))

-- ---- the mark and the word, put into an ending
pub ending_is : (m word x y : List ℕ) → x ≡ m → y ≡ word → length m ≡ 7 → length word ≡ 3
    → 46 ∷ (take 8 (x ++ 46 ∷ 119 ∷ 119 ∷ 119 ∷ []) ++ (y ++ post_of {X = ℕ} 9 3 (46 ∷ (x ++ 46 ∷ 119 ∷ 119 ∷ 119 ∷ [])))) ≡ ending_of m word
ending_is m word x y p q h k =
    let all : List ℕ = 46 ∷ (x ++ 46 ∷ 119 ∷ 119 ∷ 119 ∷ []) in
    let e : length all ≡ 12 = simp (p, length-append) (omega arith) in
    let n : post_of {X = ℕ} 9 3 all ≡ [] = drop_all 3 (drop 9 all) (omega (arith, length-drop 9 all)) in
    let t : take 8 (x ++ 46 ∷ 119 ∷ 119 ∷ 119 ∷ []) ≡ m ++ 46 ∷ [] = rw (p, ← append_assoc m (46 ∷ []) (119 ∷ 119 ∷ 119 ∷ [])) (take_at (m ++ 46 ∷ []) _ 8 (length-append m (46 ∷ []) ∙ omega (arith, h))) in
    simp (n, t, q, append-nil, append_assoc)
