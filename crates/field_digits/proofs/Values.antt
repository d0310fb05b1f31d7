-- The number that digits write: one digit more, none left, and the room that it takes; and a number's digits written from the last.
-- Assumes nothing.
use Rattle.std.proofs.Common.{Some, None}
use Prim.Native.Nat.{ℕ, zero, suc, ◌+◌, ◌-◌, ◌*◌, ◌/◌, ◌%◌, ◌^◌, ◌≤◌, ◌<◌}
use mathlib.Core.Path.{◌≡◌, refl, ap, ap₂, sym, ◌∙◌}
use mathlib.Core.List.{List, [], ◌∷◌}
use mathlib.Core.Bool.{Bool, true, false, ◌&&◌, and-true}
use native.Mathlib.Numerals.{add-one}
use native.Mathlib.Nat.{pow-suc, pow-le-pow_right, lt_of_lt_of_le, not-suc-le-zero, le_of_suc-le-suc, div-div-eq-div-mul, suc-sub-suc, sub-zero}
use native.Mathlib.Omega.{arith}
use lib.Dec.{lit<}
use lib.ListN.{length, get_or, take, drop, set, drop_of_length-le}
use lib.Seq.{drop-cons}
use Rattle.field_bytes.specs.Bytes.{every, is_digit, part}
use Rattle.field_digits.specs.Numbers.{value_from, value, number_of, code_of, written}

module _ (n : ℕ) (s : List ℕ) (i : ℕ) where
  pub value_next : i < length s → value_from (n * 10 + (get_or s i 0 - 48)) (drop (i + 1) s) ≡ value_from n (drop i s)
  unfolding value_from
  value_next h = rw (add-one, drop-cons s i 0 h)

  pub value_end : length s ≤ i → value_from n (drop i s) ≡ n
  unfolding value_from
  value_end h = rw (drop_of_length-le s h)

-- one digit more takes one place more
pub grows : (n i d : ℕ) → n < 10 ^ i → d < 10 → n * 10 + d < 10 ^ (i + 1)
grows n i d hn hd = rw (add-one, pow-suc) (omega arith)

-- no sum wraps while at most 17 digits are read
pub room : (n i d : ℕ) → n < 10 ^ i → i < 17 → d < 10 → n * 10 + d < 10 ^ 17
room n i d hn hi hd = lt_of_lt_of_le (grows n i d hn hd) (pow-le-pow_right (lit< tt) {j = 17} (omega arith))

-- what an answer of the reader says of the bytes
module _ (s : List ℕ) where
  pub number_yes : every is_digit s ≡ true → number_of s ≡ Some (value s)
  unfolding number_of
  number_yes h = rw h

  pub number_no : every is_digit s ≡ false → number_of s ≡ None
  unfolding number_of
  number_no h = rw h

  pub number_is : (n : ℕ) → number_of s ≡ Some n → (every is_digit s ≡ true) × (value s ≡ n)
  number_is n h = go (every is_digit s) refl
    where
      go : (b : Bool) → every is_digit s ≡ b → (every is_digit s ≡ true) × (value s ≡ n)
      go true e = let k : Some (value s) ≡ Some n = sym (number_yes e) ∙ h in (e, cc)
      go false e = let k : None ≡ Some n = sym (number_no e) ∙ h in (cc, cc)

  pub number_not : number_of s ≡ None → every is_digit s ≡ false
  number_not h = go (every is_digit s) refl
    where
      go : (b : Bool) → every is_digit s ≡ b → every is_digit s ≡ false
      go true e = let k : Some (value s) ≡ None = sym (number_yes e) ∙ h in cc
      go false e = e

-- the two bytes of a code, and the number that they write
pub two_places : (r : List ℕ) (from : ℕ) → 1 ≤ from → from + 1 ≤ length r → part from (from + 1) r ≡ get_or r (from - 1) 0 ∷ get_or r from 0 ∷ []
two_places r from h k =
    let i = from - 1 in
    let e : suc i ≡ from = omega arith in
    let w : from + 1 - i ≡ 2 = omega arith in
    ap (λ (n : ℕ). take n (drop i r)) w
    ∙ ap (take 2) (drop-cons r i 0 (omega arith) ∙ ap (λ (t : List ℕ). get_or r i 0 ∷ t) (drop-cons r (suc i) 0 (omega arith)))
    ∙ ap (λ (n : ℕ). get_or r i 0 ∷ get_or r n 0 ∷ []) e

-- a code by its two bytes
module _ (r : List ℕ) (from : ℕ) (h : 1 ≤ from) (k : from + 1 ≤ length r) where
  pub code_in : is_digit (get_or r (from - 1) 0) && is_digit (get_or r from 0) ≡ true
      → (get_or r (from - 1) 0 - 48) * 10 + (get_or r from 0 - 48) ≡ code_of (part from (from + 1) r)
  unfolding code_of every value_from
  code_in d = rw (two_places r from h k) (simp (and-true, d) (omega arith))

  pub code_else : is_digit (get_or r (from - 1) 0) && is_digit (get_or r from 0) ≡ false → 100 ≡ code_of (part from (from + 1) r)
  unfolding code_of every
  code_else d = rw (two_places r from h k) (simp (and-true, d))

pub written_length : (w n : ℕ) → length (written w n) ≡ w
unfolding written
written_length zero n = refl
written_length (suc w) n = ap suc (written_length w n)

-- the digit at place i, and those behind it
pub written_from : (w n i : ℕ) → i < w → drop i (written w n) ≡ (48 + n / 10 ^ (w - suc i) % 10) ∷ drop (suc i) (written w n)
unfolding written
written_from zero n i h = absurd (not-suc-le-zero h)
written_from (suc w) n zero h =
    ap (λ (k : ℕ). (48 + n / 10 ^ k % 10) ∷ written w n) (sym (suc-sub-suc w zero ∙ sub-zero w))
written_from (suc w) n (suc i) h =
    written_from w n i (le_of_suc-le-suc h)
    ∙ ap (λ (k : ℕ). (48 + n / 10 ^ k % 10) ∷ drop (suc i) (written w n)) (sym (suc-sub-suc w (suc i)))

drop_set : (l : List ℕ) (i v : ℕ) → i < length l → drop i (set l i v) ≡ v ∷ drop (suc i) l
drop_set [] i v h = absurd (not-suc-le-zero h)
drop_set (x ∷ l) zero v h = refl
drop_set (x ∷ l) (suc i) v h = drop_set l i v (le_of_suc-le-suc h)

-- the writer goes from the last place to the first: what is left of n, and the places from j on
module _ (w n rest j : ℕ) (out : List ℕ) (l : length out ≡ w) (h : j < w) (r : rest ≡ n / 10 ^ (w - suc j)) where
  pub rest_next : rest / 10 ≡ n / 10 ^ (w - j)
  rest_next =
      let k : suc (w - suc j) ≡ w - j = omega arith in
      ap (λ (x : ℕ). x / 10) r ∙ div-div-eq-div-mul n (10 ^ (w - suc j)) 10
      ∙ ap (λ (x : ℕ). n / x) (sym (pow-suc 10 (w - suc j))) ∙ ap (λ (x : ℕ). n / 10 ^ x) k

  pub places_next : drop (suc j) out ≡ drop (suc j) (written w n) → drop j (set out j (48 + rest % 10)) ≡ drop j (written w n)
  places_next d =
      drop_set out j (48 + rest % 10) (omega arith)
      ∙ ap₂ (λ (x : ℕ) (y : List ℕ). (48 + x % 10) ∷ y) r d
      ∙ sym (written_from w n j h)
