-- The mask of places is a set: none is taken at first, taking one takes that one and no other, and its ones are its members. A record 49 that does not clash counts one.
-- Assumes nothing.
use Prim.Native.Nat.{ℕ, zero, suc, ◌+◌, ◌-◌, ◌*◌, ◌/◌, ◌%◌, ◌^◌, ◌<◌}
use mathlib.Core.Path.{◌≡◌, refl, ap, ap₂, sym, subst, ◌∙◌}
use mathlib.Core.List.{List, [], ◌∷◌}
use mathlib.Core.Bool.{Bool, true, false, not, ◌&&◌, ◌||◌}
use native.Mathlib.Nat.{zero-div, mod-lt, pow-suc, mul-mod_left, mul-div_cancel, div_self, div-eq_of_lt, div-one, mul_comm}
use native.Mathlib.Decide.{dec_lt}
use native.Mathlib.Numerals.{add-one, one-add}
use native.Mathlib.Omega.{arith}
use borrow.Author.Tests.{eq-eqb, eqb-true, eqb-false, not-true}
use lib.Bits.{bit_or, or_shr, or_mod, or_zero_r}
use lib.Count.{ones, ones_step}
use lib.Arith.{lt-one}
use lib.Dec.{eqb, lit<}
use lib.ListN.{length}
use lib.Pow.{pow_pos, pow-add, pow-lt, shr_lt, shr-shr}
use Rattle.std.specs.Prelude.{if◌then◌else◌}
use Rattle.layout.specs.Rows.{member}
use Rattle.rules.specs.Messages.{taken, with_place, place_of, is_place, places, no_places, clashes, with49, used}
use Rattle.rules.specs.declared.Places.{Places}

-- one place alone: its own bit is 1, every other is 0
own_bit : (p : ℕ) → 2 ^ p / 2 ^ p % 2 ≡ 1
own_bit p = ap (λ (x : ℕ). x % 2) (div_self (pow_pos p))

bit_above : (p q : ℕ) → p < q → 2 ^ p / 2 ^ q % 2 ≡ 0
bit_above p q h = ap (λ (x : ℕ). x % 2) (div-eq_of_lt (pow-lt h))

bit_below : (p q : ℕ) → q < p → 2 ^ p / 2 ^ q % 2 ≡ 0
bit_below p q h =
    let k = p - suc q in
    let d : q + suc k ≡ p = omega arith in
    let e : 2 ^ p ≡ 2 ^ k * 2 * 2 ^ q =
    ap (λ (x : ℕ). 2 ^ x) (sym d) ∙ pow-add 2 q (suc k) ∙ mul_comm (2 ^ q) (2 ^ suc k) ∙ ap (λ (x : ℕ). x * 2 ^ q) (pow-suc 2 k) in
    ap (λ (x : ℕ). x / 2 ^ q % 2) e ∙ ap (λ (x : ℕ). x % 2) (mul-div_cancel (2 ^ k * 2) (pow_pos q)) ∙ mul-mod_left (2 ^ k) 2

other_bit : (p q : ℕ) → (q ≡ p → ⊥) → 2 ^ p / 2 ^ q % 2 ≡ 0
other_bit p q h = go (dec_lt q p)
  where
    go : Dec (q < p) → 2 ^ p / 2 ^ q % 2 ≡ 0
    go (yes l) = bit_below p q l
    go (no l) = bit_above p q (omega arith)

with_is : (m p : ℕ) → with_place m p ≡ bit_or m (2 ^ p)
unfolding with_place
with_is m p = refl

-- the bits of a mask with one place more
bit_with : (m p q : ℕ) → with_place m p / 2 ^ q % 2 ≡ bit_or (m / 2 ^ q % 2) (2 ^ p / 2 ^ q % 2)
unfolding with_place
bit_with m p q = ap (λ (x : ℕ). x % 2) (or_shr m (2 ^ p) q) ∙ or_mod (m / 2 ^ q) (2 ^ p / 2 ^ q) 1

or_one : (x : ℕ) → x < 2 → bit_or x 1 ≡ 1
or_one zero h = refl
or_one (suc zero) h = refl
or_one (suc (suc x)) h = omega arith

-- at first no place is taken
pub none_taken : (q : ℕ) → taken 0 q ≡ false
unfolding taken
none_taken q = ap (λ (x : ℕ). eqb (x % 2) 1) (zero-div (2 ^ q))

-- a place is taken once it is set, and setting it leaves every other as it was
pub own_taken : (m p : ℕ) → taken (with_place m p) p ≡ true
unfolding taken
own_taken m p =
    eq-eqb (with_place m p / 2 ^ p % 2) 1 (bit_with m p p ∙ ap (bit_or (m / 2 ^ p % 2)) (own_bit p) ∙ or_one (m / 2 ^ p % 2) (mod-lt (m / 2 ^ p) (lit< tt)))

pub others_stay : (m p q : ℕ) → (q ≡ p → ⊥) → taken (with_place m p) q ≡ taken m q
unfolding taken
others_stay m p q h =
    ap (λ (x : ℕ). eqb x 1) (bit_with m p q ∙ ap (bit_or (m / 2 ^ q % 2)) (other_bit p q h) ∙ or_zero_r (m / 2 ^ q % 2))

pub taken_with : (m p q : ℕ) → taken (with_place m p) q ≡ eqb q p || taken m q
taken_with m p q = go (eqb q p) refl
  where
    go : (b : Bool) → eqb q p ≡ b → taken (with_place m p) q ≡ b || taken m q
    go true e = ap (taken (with_place m p)) (eqb-true q p e) ∙ own_taken m p
    go false e = others_stay m p q (eqb-false q p e)

-- the mask of a list of places: a place is taken exactly when it is in the list
unfoldable pub mask_of : List ℕ → ℕ
mask_of [] = 0
mask_of (p ∷ ps) = with_place (mask_of ps) p

pub taken_member : (ps : List ℕ) (q : ℕ) → taken (mask_of ps) q ≡ member q ps
unfolding mask_of member
taken_member [] q = none_taken q
taken_member (p ∷ ps) q = taken_with (mask_of ps) p q ∙ ap (λ (b : Bool). eqb q p || b) (taken_member ps q)

-- a place that the test finds free is none of those taken before, so that none is taken twice
pub free_is_new : (ps : List ℕ) (q : ℕ) → not (taken (mask_of ps) q) ≡ true → member q ps ≡ false
free_is_new ps q h = sym (taken_member ps q) ∙ not-true (taken (mask_of ps) q) h

-- ---- the ones of a mask are its members
-- how many of the first n places are in a set
abbrev one : Bool → ℕ
one b = if b then 1 else 0

unfoldable pub members : ℕ → (ℕ → Bool) → ℕ
members zero set = 0
members (suc n) set = one (set 0) + members n (λ p. set (suc p))

members_same : (n : ℕ) (f g : ℕ → Bool) → ((p : ℕ) → f p ≡ g p) → members n f ≡ members n g
unfolding members
members_same zero f g h = refl
members_same (suc n) f g h = ap₂ (λ (b : Bool) (x : ℕ). one b + x) (h 0) (members_same n (λ p. f (suc p)) (λ p. g (suc p)) (λ p. h (suc p)))

-- the lowest bit is the first place, and half the mask has the others
one_of : (x : ℕ) → x < 2 → one (eqb x 1) ≡ x
one_of zero h = refl
one_of (suc zero) h = refl
one_of (suc (suc x)) h = omega arith

first_place : (m : ℕ) → one (taken m 0) ≡ m % 2
unfolding taken
first_place m = ap (λ (x : ℕ). one (eqb (x % 2) 1)) (div-one m) ∙ one_of (m % 2) (mod-lt m (lit< tt))

other_places : (m p : ℕ) → taken (m / 2) p ≡ taken m (suc p)
unfolding taken
other_places m p = ap (λ (x : ℕ). eqb (x % 2) 1) (shr-shr m 1 p) ∙ ap (λ (x : ℕ). eqb (m / 2 ^ x % 2) 1) (one-add p)

-- the number of ones is the number of places taken
pub count_of_places : (n m : ℕ) → m < 2 ^ n → ones m ≡ members n (taken m)
unfolding members ones
count_of_places zero m h = ap ones (lt-one h)
count_of_places (suc n) m h =
    ones_step m
    ∙ ap₂ (λ (x y : ℕ). x + y) (sym (first_place m)) (count_of_places n (m / 2) (shr_lt n 1 (subst (λ (x : ℕ). m < 2 ^ x) (sym (add-one n)) h)) ∙ members_same n (taken (m / 2)) (λ p. taken m (suc p)) (other_places m))

-- a place that was free is one more
low_with : (m p : ℕ) → with_place m p % 2 ≡ bit_or (m % 2) (2 ^ p % 2)
unfolding with_place
low_with m p = or_mod m (2 ^ p) 1

half_with : (m p : ℕ) → with_place m p / 2 ≡ bit_or (m / 2) (2 ^ p / 2)
unfolding with_place
half_with m p = or_shr m (2 ^ p) 1

pub one_place_more : (m p : ℕ) → taken m p ≡ false → ones (with_place m p) ≡ ones m + 1
one_place_more m zero h =
    let free : m % 2 ≡ 0 = sym (first_place m) ∙ ap one h in
    let low : with_place m 0 % 2 ≡ 1 = low_with m 0 ∙ ap (λ (x : ℕ). bit_or x 1) free in
    let half : with_place m 0 / 2 ≡ m / 2 = half_with m 0 ∙ or_zero_r (m / 2) in
    let there : ones (with_place m 0) ≡ 1 + ones (m / 2) = ones_step (with_place m 0) ∙ ap₂ (λ (x y : ℕ). x + ones y) low half in
    let here : ones m ≡ 0 + ones (m / 2) = ones_step m ∙ ap (λ (x : ℕ). x + ones (m / 2)) free in
    omega (arith, there, here)
one_place_more m (suc p) h =
    let low : with_place m (suc p) % 2 ≡ m % 2 = low_with m (suc p) ∙ ap (bit_or (m % 2)) (ap (λ (x : ℕ). x % 2) (pow-suc 2 p) ∙ mul-mod_left (2 ^ p) 2) ∙ or_zero_r (m % 2) in
    let half : with_place m (suc p) / 2 ≡ with_place (m / 2) p = half_with m (suc p) ∙ ap (bit_or (m / 2)) (ap (λ (x : ℕ). x / 2) (pow-suc 2 p) ∙ mul-div_cancel (2 ^ p) (lit< tt)) ∙ sym (with_is (m / 2) p) in
    let there : ones (with_place m (suc p)) ≡ m % 2 + ones (with_place (m / 2) p) = ones_step (with_place m (suc p)) ∙ ap₂ (λ (x y : ℕ). x + ones y) low half in
    let rest : ones (with_place (m / 2) p) ≡ ones (m / 2) + 1 = one_place_more (m / 2) p (other_places m p ∙ h) in
    omega (arith, there, rest, ones_step m)

-- so the mask of a list without repeats has as many ones as the list has places
unfoldable pub Distinct : List ℕ → Type 0
Distinct [] = Unit {0}
Distinct (p ∷ ps) = (member p ps ≡ false) × Distinct ps

pub count_of_list : (ps : List ℕ) → Distinct ps → ones (mask_of ps) ≡ length ps
unfolding mask_of Distinct ones
count_of_list [] d = refl
count_of_list (p ∷ ps) d =
    let more : ones (with_place (mask_of ps) p) ≡ ones (mask_of ps) + 1 = one_place_more (mask_of ps) p (taken_member ps p ∙ d.0) in
    omega (arith, more, count_of_list ps d.1)

-- ---- a record 49 more
module _ (ps : Places) (line column : ℕ) where
  -- by whether it has a place
  clashes_by : (b : Bool) → is_place line column ≡ b → clashes ps line column ≡ b && taken ps.mask (place_of line column)
  unfolding clashes
  clashes_by b h = ap (λ (x : Bool). x && taken ps.mask (place_of line column)) h

  with_by : (b : Bool) → is_place line column ≡ b
      → with49 ps line column ≡ (if b then places (with_place ps.mask (place_of line column)) ps.unplaced else places ps.mask (ps.unplaced + 1))
  unfolding with49
  with_by b h = ap (λ (x : Bool). if x then places (with_place ps.mask (place_of line column)) ps.unplaced else places ps.mask (ps.unplaced + 1)) h

  -- with no place it clashes with nothing, and leaves the mask as it was
  pub unplaced_free : is_place line column ≡ false → clashes ps line column ≡ false
  unplaced_free h = clashes_by false h

  pub unplaced_with : is_place line column ≡ false → with49 ps line column ≡ places ps.mask (ps.unplaced + 1)
  unplaced_with h = with_by false h

  -- with a place it clashes where that is taken, and takes it
  pub placed_clashes : is_place line column ≡ true → clashes ps line column ≡ taken ps.mask (place_of line column)
  placed_clashes h = clashes_by true h

  pub placed_with : is_place line column ≡ true → with49 ps line column ≡ places (with_place ps.mask (place_of line column)) ps.unplaced
  placed_with h = with_by true h

  -- what is taken after it: its own place, if it has one, and what was taken before
  pub taken_after : (p : ℕ) → taken (with49 ps line column).mask p ≡ (is_place line column && eqb p (place_of line column)) || taken ps.mask p
  taken_after p = go (is_place line column) refl
    where
      go : (b : Bool) → is_place line column ≡ b → taken (with49 ps line column).mask p ≡ (b && eqb p (place_of line column)) || taken ps.mask p
      go true e = ap (λ (x : Places). taken x.mask p) (placed_with e) ∙ taken_with ps.mask (place_of line column) p
      go false e = ap (λ (x : Places). taken x.mask p) (unplaced_with e)

  -- where it does not clash, it is one more of places and unplaced records together
  pub one_more : clashes ps line column ≡ false → used (with49 ps line column) ≡ used ps + 1
  unfolding used
  one_more h = go (is_place line column) refl
    where
      go : (b : Bool) → is_place line column ≡ b → used (with49 ps line column) ≡ used ps + 1
      go true e =
          let more = one_place_more ps.mask (place_of line column) (sym (placed_clashes e) ∙ h) in
          ap used (placed_with e) ∙ omega (arith, more)
      go false e = ap used (unplaced_with e) ∙ omega arith

-- the first 49 of a transaction clashes with nothing
pub first_free : (line column : ℕ) → clashes no_places line column ≡ false
first_free line column = go (is_place line column) refl
  where
    go : (b : Bool) → is_place line column ≡ b → clashes no_places line column ≡ false
    go true e = placed_clashes no_places line column e ∙ none_taken (place_of line column)
    go false e = unplaced_free no_places line column e
