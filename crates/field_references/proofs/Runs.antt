-- Neighbours that join, with a digit at the end, are one run of digits at that end and blanks elsewhere; with a blank at the right end they are all blank.
-- Assumes nothing.
use Prim.Native.Nat.{ℕ, suc, ◌+◌, ◌-◌, ◌≤◌, ◌<◌}
use mathlib.Core.Path.{◌≡◌, refl, ap, ap₂, sym, ◌∙◌}
use mathlib.Core.List.{List, [], ◌∷◌}
use mathlib.Core.Bool.{Bool, true, false, ◌&&◌, ◌||◌, and-true, and-false, and_comm, or-false, or_comm, and-or_distrib_left, false≢true}
use native.Mathlib.Nat.{not-suc-le-zero}
use native.Mathlib.Omega.{arith}
use borrow.Author.Tests.{eqb-true}
use lib.ListN.{length, get_or, take, drop, drop_of_length-le}
use lib.Seq.{drop-cons, take_all}
use Rattle.std.specs.Prelude.{if◌then◌else◌}
use Rattle.field_bytes.specs.Bytes.{every, is_digit, is_blank, is_digit_or_blank}
use Rattle.field_bytes.proofs.Tests.{and_right}
use Rattle.field_references.specs.Kids.{at_right, at_left, is_reference}
use Rattle.field_references.specs.OnTheWay.{joins, chain_from, chain}
use Rattle.field_references.specs.declared.Side.TheVariants.{Left, Right}

-- ---- the loop over neighbours, which has come to the one at i
module _ (f : ℕ → ℕ → Bool) (s : List ℕ) (i : ℕ) (h : 1 ≤ i) where
  pub chain_next : i < length s → f (get_or s (i - 1) 0) (get_or s i 0) && chain f (drop (i + 1 - 1) s) ≡ chain f (drop (i - 1) s)
  unfolding chain chain_from
  chain_next l =
      let here : i + 1 - 1 ≡ i = omega arith in
      let k : suc (i - 1) ≡ i = omega arith in
      rw (here, drop-cons s (i - 1) 0 (omega arith), k, drop-cons s i 0 l)

  pub chain_end : i ≡ length s → chain f (drop (i - 1) s) ≡ true
  unfolding chain chain_from
  chain_end e = rw (drop-cons s (i - 1) 0 (omega arith), drop_of_length-le s {i = suc (i - 1)} (omega arith))

-- ---- what the neighbours say of the whole
blank_no_digit : (b : ℕ) → is_blank b ≡ true → is_digit b ≡ false
blank_no_digit b h = rw (eqb-true b 32 h)

digit_no_blank : (b : ℕ) → is_digit b ≡ true → is_blank b ≡ false
digit_no_blank b h = go (is_blank b) refl
  where
    go : (t : Bool) → is_blank b ≡ t → is_blank b ≡ false
    go false e = e
    go true e = absurd (false≢true (sym (blank_no_digit b e) ∙ h))

last_of : ℕ → List ℕ → ℕ
last_of a [] = a
last_of a (b ∷ s) = last_of b s

last_at : (a : ℕ) (s : List ℕ) → last_of a s ≡ get_or (a ∷ s) (length s) 0
unfolding last_of
last_at a [] = refl
last_at a (b ∷ s) = last_at b s

-- a digit run at the right, one byte more before it: blank and digit are what the byte is, and its neighbour
right_one : (blank digit : Bool) → (blank ≡ true → digit ≡ false) → digit ≡ (if blank then false else (digit && true))
right_one true digit h = h refl
right_one false digit h = sym (and-true digit)

right_more : (blank digit blank' digit' rest last behind all : Bool) → (digit' ≡ true → blank' ≡ false)
    → rest && last ≡ (if blank' then behind else (digit' && all))
    → (blank || digit && digit') && rest && last
    ≡ (if blank then (if blank' then behind else (digit' && all)) else (digit && (digit' && all)))
right_more true digit blank' digit' rest last behind all h ih = ih
right_more false false blank' digit' rest last behind all h ih = refl
right_more false true blank' false rest last behind all h ih = refl
right_more false true blank' true rest last behind all h ih = ih ∙ ap (λ (x : Bool). if x then behind else all) (h refl)

right_run : (a : ℕ) (s : List ℕ) → chain_from (joins Right) a s && is_digit (last_of a s) ≡ at_right (a ∷ s)
unfolding chain_from at_right every last_of
right_run a [] = right_one (is_blank a) (is_digit a) (blank_no_digit a)
right_run a (b ∷ s) =
    right_more (is_blank a) (is_digit a) (is_blank b) (is_digit b) (chain_from (joins Right) b s) (is_digit (last_of b s)) (at_right s) (every is_digit s) (digit_no_blank b) (right_run b s)

-- the same with a blank at the end: behind a digit only digits join, so all are blank
blank_more : (blank digits rest last blanks : Bool) → (digits ≡ true → blanks ≡ false)
    → rest && last ≡ blanks → (blank || digits) && rest && last ≡ blank && blanks
blank_more true digits rest last blanks h ih = ih
blank_more false true rest last blanks h ih = ih ∙ h refl
blank_more false false rest last blanks h ih = refl

blank_run : (a : ℕ) (s : List ℕ) → chain_from (joins Right) a s && is_blank (last_of a s) ≡ every is_blank (a ∷ s)
unfolding chain_from every last_of
blank_run a [] = sym (and-true (is_blank a))
blank_run a (b ∷ s) =
    let none : is_digit a && is_digit b ≡ true → every is_blank (b ∷ s) ≡ false = λ h. rw (digit_no_blank b (and_right (is_digit a) (is_digit b) h)) in
    blank_more (is_blank a) (is_digit a && is_digit b) (chain_from (joins Right) b s) (is_blank (last_of b s)) (every is_blank (b ∷ s)) none (blank_run b s)

-- a digit run at the left: behind what is no digit only blanks join
blanks_on : (a : ℕ) (s : List ℕ) → is_digit a ≡ false → chain_from (joins Left) a s ≡ every is_blank s
unfolding chain_from every
blanks_on a [] h = refl
blanks_on a (b ∷ s) h = go (is_digit a) (is_blank b) (is_digit b) h (blank_no_digit b) (blanks_on b s)
  where
    go : (digit blank' digit' : Bool) → digit ≡ false → (blank' ≡ true → digit' ≡ false) → (digit' ≡ false → chain_from (joins Left) b s ≡ every is_blank s)
        → (blank' || digit' && digit) && chain_from (joins Left) b s ≡ blank' && every is_blank s
    go true blank' digit' e k ih = absurd (false≢true (sym e))
    go false true digit' e k ih = ih (k refl)
    go false false digit' e k ih = ap (λ (x : Bool). x && chain_from (joins Left) b s) (and-false digit')

left_more : (digit blank' digit' rest blanks left : Bool) → (blank' ≡ true → digit' ≡ false) → (digit' ≡ false → rest ≡ blanks)
    → rest && digit' ≡ left → (blank' || digit' && digit) && rest && digit ≡ digit && (blank' && blanks || left)
left_more false blank' digit' rest blanks left h k ih = and-false ((blank' || digit' && false) && rest)
left_more true true digit' rest blanks left h k ih =
    let none : left ≡ false = sym ih ∙ ap (λ (x : Bool). rest && x) (h refl) ∙ and-false rest in
    and-true rest ∙ k (h refl) ∙ sym (or-false blanks) ∙ ap (λ (x : Bool). blanks || x) (sym none)
left_more true false digit' rest blanks left h k ih =
    and-true (digit' && true && rest) ∙ ap (λ (x : Bool). x && rest) (and-true digit') ∙ and_comm digit' rest ∙ ih

left_run : (a : ℕ) (s : List ℕ) → chain_from (joins Left) a s && is_digit a ≡ at_left (a ∷ s)
unfolding chain_from at_left every
left_run a [] = sym (and-true (is_digit a))
left_run a (b ∷ s) =
    left_more (is_digit a) (is_blank b) (is_digit b) (chain_from (joins Left) b s) (every is_blank s) (at_left (b ∷ s)) (blank_no_digit b) (blanks_on b s) (left_run b s)

-- ---- the same of a field, as the code tests it
as_last : (test : ℕ → Bool) (a : ℕ) (s : List ℕ)
    → chain_from (joins Right) a s && test (get_or (a ∷ s) (length (a ∷ s) - 1) 0) ≡ chain_from (joins Right) a s && test (last_of a s)
as_last test a s =
    let e : length s ≡ length (a ∷ s) - 1 = omega arith in
    ap (λ (b : ℕ). chain_from (joins Right) a s && test b) (ap (λ (k : ℕ). get_or (a ∷ s) k 0) (sym e) ∙ sym (last_at a s))

pub right_is : (s : List ℕ) → 0 < length s → chain (joins Right) s && is_digit (get_or s (length s - 1) 0) ≡ at_right s
unfolding chain
right_is [] h = absurd (not-suc-le-zero h)
right_is (a ∷ s) h = as_last is_digit a s ∙ right_run a s

pub blank_or_right_is : (s : List ℕ) → 0 < length s → chain (joins Right) s && is_digit_or_blank (get_or s (length s - 1) 0) ≡ (every is_blank s || at_right s)
unfolding chain
blank_or_right_is [] h = absurd (not-suc-le-zero h)
blank_or_right_is (a ∷ s) h =
    as_last is_digit_or_blank a s ∙ and-or_distrib_left (chain_from (joins Right) a s) (is_digit (last_of a s)) (is_blank (last_of a s))
    ∙ ap₂ ◌||◌ (right_run a s) (blank_run a s) ∙ or_comm (at_right (a ∷ s)) (every is_blank (a ∷ s))

pub left_is : (s : List ℕ) → 0 < length s → chain (joins Left) s && is_digit (get_or s 0 0) ≡ at_left s
unfolding chain
left_is [] h = absurd (not-suc-le-zero h)
left_is (a ∷ s) h = left_run a s

pub reference_is : (s : List ℕ) → 0 < length s → is_blank (get_or s 0 0) && at_right (take (length s - 1) (drop 1 s)) ≡ is_reference s
unfolding is_reference
reference_is [] h = absurd (not-suc-le-zero h)
reference_is (a ∷ s) h = ap (λ (r : List ℕ). is_blank a && at_right r) (take_all (length (a ∷ s) - 1) s (omega arith))
