-- Digit fields of any width, in four facts that are proved once over the width and cited for 6, 7, 8, 9, 11 and 17 places.
-- Assumes nothing.
use Rattle.std.proofs.Common.{Option, Some, None, ℕ}
use Prim.Native.Nat.{ℕ, zero, suc, ◌+◌, ◌-◌, ◌*◌, ◌/◌, ◌%◌, ◌^◌, ◌<◌}
use mathlib.Core.Path.{◌≡◌, refl, ap, ap₂, sym, ◌∙◌}
use mathlib.Core.List.{List, [], ◌∷◌, ◌++◌}
use mathlib.Core.Bool.{Bool, true, false, ◌&&◌, and_assoc}
use native.Mathlib.Nat.{pow-succ', mod-eq_of_lt, one-le-pow, mul_assoc, add-mul, add_assoc, zero-mul, zero-add, mod-one}
use native.Mathlib.Omega.{arith}
use lib.Arith.{mod-mul, digits_lt, digits_div}
use lib.Dec.{lit<}
use lib.ListN.{length, length-take, length-drop}
use Rattle.field_bytes.specs.Bytes.{every, is_digit, part, Inside}
use Rattle.field_digits.specs.Numbers.{value_from, value, number_of, written}
use Rattle.field_bytes.proofs.Tests.{and_left, and_right, and_both}
use Rattle.field_bytes.proofs.Every.{digit_low, digit_high, digit_is}
use Rattle.field_digits.proofs.Values.{number_is, number_yes, number_no}

-- what was read before counts 10 ^ width times
pub value_split : (a : ℕ) (s : List ℕ) → value_from a s ≡ a * 10 ^ length s + value s
unfolding value_from
value_split a [] = omega arith
value_split a (b ∷ s) =
    simp (value_split (a * 10 + (b - 48)) s, zero-mul, zero-add, value_split (b - 48) s, pow-succ', add-mul, mul_assoc, add_assoc)

pub value_below : (s : List ℕ) → every is_digit s ≡ true → value s < 10 ^ length s
unfolding every value_from
value_below [] h = lit< tt
value_below (b ∷ s) h =
    let d = digit_high b (and_left (is_digit b) (every is_digit s) h) in
    let r = value_below s (and_right (is_digit b) (every is_digit s) h) in
    rw (value_split (0 * 10 + (b - 48)) s, pow-succ') (digits_lt (omega arith) r)

written_value : (w a n : ℕ) → value_from a (written w n) ≡ a * 10 ^ w + n % 10 ^ w
unfolding value_from written
written_value zero a n = omega (arith, mod-one n)
written_value (suc w) a n =
    let d : 48 + n / 10 ^ w % 10 - 48 ≡ n / 10 ^ w % 10 = omega arith in
    ap (λ (x : ℕ). value_from (a * 10 + x) (written w n)) d ∙ written_value w (a * 10 + n / 10 ^ w % 10) n
    ∙ simp (pow-succ', mod-mul n {m = 10} {c = 10 ^ w} (lit< tt) (one-le-pow w 10 (lit< tt)), add-mul, mul_assoc, add_assoc)

pub written_digits : (w n : ℕ) → every is_digit (written w n) ≡ true
unfolding every written
written_digits zero n = refl
written_digits (suc w) n =
    and_both (is_digit (48 + n / 10 ^ w % 10)) (every is_digit (written w n)) (digit_is (48 + n / 10 ^ w % 10) (omega arith) (omega arith)) (written_digits w n)

value_written : (a : ℕ) (s : List ℕ) → every is_digit s ≡ true → written (length s) (value_from a s) ≡ s
unfolding every value_from written
value_written a [] h = refl
value_written a (b ∷ s) h =
    let hb = and_left (is_digit b) (every is_digit s) h in
    let hs = and_right (is_digit b) (every is_digit s) h in
    let A = a * 10 + (b - 48) in
    let q : value_from A s / 10 ^ length s ≡ A = rw (value_split A s) (digits_div A (value_below s hs)) in
    let e : 48 + A % 10 ≡ b = omega (arith, digit_low b hb, digit_high b hb) in
    ap₂ ◌∷◌ (ap (λ (x : ℕ). 48 + x % 10) q ∙ e) (value_written A s hs)

-- ---- reading in steps is reading digit by digit, whatever the widths and whatever the bytes
pub steps_every : (f : ℕ → Bool) (s t : List ℕ) → every f (s ++ t) ≡ every f s && every f t
unfolding every
steps_every f [] t = refl
steps_every f (b ∷ s) t = ap (λ (u : Bool). f b && u) (steps_every f s t) ∙ sym (and_assoc (f b) (every f s) (every f t))

steps_value : (a : ℕ) (s t : List ℕ) → value_from a (s ++ t) ≡ value_from (value_from a s) t
unfolding value_from
steps_value a [] t = refl
steps_value a (b ∷ s) t = steps_value (a * 10 + (b - 48)) s t

-- what was read, and behind it w digits more
abbrev pub further_by : ℕ → Option ℕ → Option ℕ → Option ℕ
further_by w (Some a) (Some b) = Some (a * 10 ^ w + b)
further_by w (Some a) None = None
further_by w None d = None

pub in_steps : (s t : List ℕ) → number_of (s ++ t) ≡ further_by (length t) (number_of s) (number_of t)
in_steps s t = go (every is_digit s) (every is_digit t) refl refl
  where
    both : (p q : Bool) → every is_digit s ≡ p → every is_digit t ≡ q → every is_digit (s ++ t) ≡ p && q
    both p q hs ht = steps_every is_digit s t ∙ ap₂ ◌&&◌ hs ht

    go : (p q : Bool) → every is_digit s ≡ p → every is_digit t ≡ q → number_of (s ++ t) ≡ further_by (length t) (number_of s) (number_of t)
    go true true hs ht =
        number_yes (s ++ t) (both true true hs ht)
        ∙ ap Some (steps_value 0 s t ∙ value_split (value s) t)
        ∙ sym (ap₂ (further_by (length t)) (number_yes s hs) (number_yes t ht))
    go true false hs ht = number_no (s ++ t) (both true false hs ht) ∙ sym (ap₂ (further_by (length t)) (number_yes s hs) (number_no t ht))
    go false q hs ht = number_no (s ++ t) (both false q hs ht) ∙ sym (ap (λ (d : Option ℕ). further_by (length t) d (number_of t)) (number_no s hs))

-- the four facts of a field of w places
pub record DigitField (w : ℕ) : Type 0 where
  -- a number read is below 10 ^ w
  pub below : (s : List ℕ) (n : ℕ) → length s ≡ w → number_of s ≡ Some n → n < 10 ^ w
  -- a number written reads back
  pub reads_back : (n : ℕ) → n < 10 ^ w → number_of (written w n) ≡ Some n
  -- digits read and written again are the same bytes
  pub writes_back : (s : List ℕ) (n : ℕ) → length s ≡ w → number_of s ≡ Some n → written w n ≡ s
  -- equal numbers are equal bytes
  pub one_form : (s t : List ℕ) (n : ℕ) → length s ≡ w → length t ≡ w → number_of s ≡ Some n → number_of t ≡ Some n → s ≡ t

reads : (w n : ℕ) → n < 10 ^ w → number_of (written w n) ≡ Some n
reads w n h =
    number_yes (written w n) (written_digits w n)
    ∙ ap Some (written_value w 0 n ∙ simp (mod-eq_of_lt h, zero-mul, zero-add))

writes : (w : ℕ) (s : List ℕ) (n : ℕ) → length s ≡ w → number_of s ≡ Some n → written w n ≡ s
writes w s n l h =
    let e = number_is s n h in
    ap₂ written (sym l) (sym e.1) ∙ value_written 0 s e.0

pub digit_field : (w : ℕ) → DigitField w
digit_field w =
    record {
      below = λ s n l h. let e = number_is s n h in rw (e.1, l) at (value_below s e.0);
      reads_back = reads w;
      writes_back = writes w;
      one_form = λ s t n l m h k. sym (writes w s n l h) ∙ writes w t n m k;
    }

-- the widths of document 01's layouts
pub six_places : DigitField 6
six_places = digit_field 6

pub seven_places : DigitField 7
seven_places = digit_field 7

pub eight_places : DigitField 8
eight_places = digit_field 8

pub nine_places : DigitField 9
nine_places = digit_field 9

pub eleven_places : DigitField 11
eleven_places = digit_field 11

pub seventeen_places : DigitField 17
seventeen_places = digit_field 17

-- a field by its positions: how long it is, and the bound of the number in it
pub part_length : (from to : ℕ) (r : List ℕ) → Inside from to r → length (part from to r) ≡ to + 1 - from
part_length from to r h =
    simp (length-take, length-drop) (omega arith)

pub below_at : (from to : ℕ) (r : List ℕ) (n : ℕ) → Inside from to r → number_of (part from to r) ≡ Some n → n < 10 ^ (to + 1 - from)
below_at from to r n h e = (digit_field (to + 1 - from)).below (part from to r) n (part_length from to r h) e
