-- Numbers up to the cap.
-- Assumes nothing.
use Prim.Native.Nat.{ℕ, suc, ◌+◌, ◌-◌, ◌*◌, ◌≤◌, ◌<◌}
use mathlib.Core.Path.{◌≡◌, refl, sym, ap, ◌∙◌}
use mathlib.Core.List.{List, [], ◌∷◌}
use mathlib.Core.Bool.{Bool, true, false}
use native.Mathlib.Omega.{arith}
use borrow.Author.Tests.{lt-ltb, le-ltb, ltb-true, ltb-false, ne_eqb}
use lib.Dec.{eqb, ltb}
use lib.ListN.{length, get_or, drop}
use Rattle.std.specs.Prelude.{if◌then◌else◌}
use Rattle.fields.specs.Bytes.{every, is_digit}
use Rattle.fields.specs.Numbers.{value_from}
use Rattle.field_digits.proofs.Values.{value_next, value_end}
use Rattle.make_lines.specs.Lines.{is_numeral, cap, capped}

pub capped_low : (n : ℕ) → n < cap → capped n ≡ n
unfolding capped
capped_low n h = simp (lt-ltb n cap h)

pub capped_high : (n : ℕ) → cap ≤ n → capped n ≡ cap
unfolding capped
capped_high n h = simp (le-ltb n cap h)

pub capped_most : (n : ℕ) → capped n ≤ cap
unfolding capped
capped_most n = go (ltb n cap) refl
  where
    go : (t : Bool) → ltb n cap ≡ t → (if t then n else cap) ≤ cap
    go true h = omega (arith, ltb-true n cap h)
    go false h = omega arith

pub capped_same : (n : ℕ) → n ≤ cap → capped n ≡ n
unfolding capped
capped_same n l = go (ltb n cap) refl
  where
    go : (t : Bool) → ltb n cap ≡ t → (if t then n else cap) ≡ n
    go true h = refl
    go false h = omega (arith, ltb-false n cap h)

-- 4 is below the cap, so what is capped is 4 where it was
pub capped_four : (n : ℕ) → eqb (capped n) 4 ≡ eqb n 4
capped_four n = go (ltb n cap) refl
  where
    go : (t : Bool) → ltb n cap ≡ t → eqb (capped n) 4 ≡ eqb n 4
    go true h = ap (λ (x : ℕ). eqb x 4) (capped_low n (ltb-true n cap h))
    go false h =
        let k = ltb-false n cap h in
        ap (λ (x : ℕ). eqb x 4) (capped_high n k) ∙ sym (ne_eqb n 4 (λ e. omega arith))

-- one digit more: whether the number before it was capped makes no difference
capped_more : (n d : ℕ) → capped (capped n * 10 + d) ≡ capped (n * 10 + d)
capped_more n d = go (ltb n cap) refl
  where
    go : (t : Bool) → ltb n cap ≡ t → capped (capped n * 10 + d) ≡ capped (n * 10 + d)
    go true h = ap (λ (x : ℕ). capped (x * 10 + d)) (capped_low n (ltb-true n cap h))
    go false h =
        let k = ltb-false n cap h in
        ap (λ (x : ℕ). capped (x * 10 + d)) (capped_high n k) ∙ capped_high (cap * 10 + d) (omega arith) ∙ sym (capped_high (n * 10 + d) (omega arith))

capped_from : (n : ℕ) (s : List ℕ) → capped (value_from (capped n) s) ≡ capped (value_from n s)
unfolding value_from
capped_from n [] = capped_same (capped n) (capped_most n)
capped_from n (b ∷ s) =
    sym (capped_from (capped n * 10 + (b - 48)) s) ∙ ap (λ (x : ℕ). capped (value_from x s)) (capped_more n (b - 48)) ∙ capped_from (n * 10 + (b - 48)) s

-- the loop that reads a number: a digit more, and none left
module _ (n : ℕ) (s : List ℕ) (i : ℕ) where
  pub capped_next : (m : ℕ) → m ≡ capped (n * 10 + (get_or s i 0 - 48)) → i < length s → capped (value_from m (drop (i + 1) s)) ≡ capped (value_from n (drop i s))
  capped_next m e h = ap (λ (x : ℕ). capped (value_from x (drop (i + 1) s))) e ∙ capped_from (n * 10 + (get_or s i 0 - 48)) (drop (i + 1) s) ∙ ap capped (value_next n s i h)

  pub capped_end : n ≤ cap → length s ≤ i → capped (value_from n (drop i s)) ≡ n
  capped_end l h = ap capped (value_end n s i h) ∙ capped_same n l

-- one digit or more
pub numeral_none : (s : List ℕ) → length s ≡ 0 → false ≡ is_numeral s
unfolding is_numeral
numeral_none [] h = refl
numeral_none (x ∷ s) h = absurd (let z : suc (length s) ≡ 0 = h in omega arith)

pub numeral_some : (s : List ℕ) → (length s ≡ 0 → ⊥) → every is_digit s ≡ is_numeral s
unfolding is_numeral
numeral_some [] h = absurd (h refl)
numeral_some (x ∷ s) h = refl
