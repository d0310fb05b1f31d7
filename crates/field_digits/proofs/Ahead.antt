-- Digits ahead of a word: digits 0, which leave the number as it is, and one digit more; and a word behind these.
-- Assumes nothing.
use Rattle.std.proofs.Common.{Some, None}
use Prim.Native.Nat.{ℕ, ◌+◌, ◌-◌, ◌*◌, ◌<◌}
use mathlib.Core.Path.{◌≡◌, refl, ap, ap₂, sym, ◌∙◌}
use mathlib.Core.List.{List, ◌∷◌, ◌++◌}
use mathlib.Core.Bool.{Bool, true, false, ◌&&◌}
use native.Mathlib.Nat.{zero-add}
use lib.ListN.{length, get_or, take, drop}
use Rattle.field_bytes.specs.Bytes.{every, is_digit}
use Rattle.field_bytes.proofs.Tests.{and_left, and_right}
use Rattle.field_bytes.proofs.Listed.{one_by_one, listed}
use Rattle.field_words.specs.Words.{bytes_of}
use Rattle.field_digits.specs.Numbers.{value_from, value, number_of}
use Rattle.field_digits.proofs.Values.{number_yes, number_no}
use Rattle.field_digits.proofs.Width.{value_split, value_below, steps_every, further_by, in_steps}

-- a digit 0 in front leaves the number as it is
pub zero_before : (s : List ℕ) → number_of (48 ∷ s) ≡ number_of s
unfolding number_of every value_from
zero_before s = refl

-- a word of digits takes eight places
pub word_below : (x : ℕ) → every is_digit (bytes_of 8 x) ≡ true → value (bytes_of 8 x) < 100000000
unfolding bytes_of
word_below x h = value_below (bytes_of 8 x) h

-- a digit and a word
module _ (b x : ℕ) where
  ahead_yes : is_digit b && every is_digit (bytes_of 8 x) ≡ true → number_of (b ∷ bytes_of 8 x) ≡ Some ((b - 48) * 100000000 + value (bytes_of 8 x))
  unfolding every bytes_of value_from
  ahead_yes h = number_yes (b ∷ bytes_of 8 x) h ∙ ap Some (value_split (0 * 10 + (b - 48)) (bytes_of 8 x) ∙ ap (λ (d : ℕ). d * 100000000 + value (bytes_of 8 x)) (zero-add (b - 48)))

  ahead_no : is_digit b && every is_digit (bytes_of 8 x) ≡ false → number_of (b ∷ bytes_of 8 x) ≡ None
  unfolding every
  ahead_no h = number_no (b ∷ bytes_of 8 x) h

-- a field of nine by its first byte and the word behind it
module _ (s : List ℕ) (x : ℕ) (l : length s ≡ 9) (w : bytes_of 8 x ≡ take 8 (drop 1 s)) where
  nine : get_or s 0 0 ∷ bytes_of 8 x ≡ s
  unfolding one_by_one
  nine =
      ap (λ (r : List ℕ). get_or s 0 0 ∷ r) w
      ∙ ap (λ (r : List ℕ). get_or s 0 0 ∷ take 8 (drop 1 r)) (listed s 9 l) ∙ sym (listed s 9 l)

  pub nine_yes : is_digit (get_or s 0 0) && every is_digit (bytes_of 8 x) ≡ true → Some ((get_or s 0 0 - 48) * 100000000 + value (bytes_of 8 x)) ≡ number_of s
  nine_yes h = sym (ahead_yes (get_or s 0 0) x h) ∙ ap number_of nine

  pub nine_no : is_digit (get_or s 0 0) && every is_digit (bytes_of 8 x) ≡ false → None ≡ number_of s
  nine_no h = sym (ahead_no (get_or s 0 0) x h) ∙ ap number_of nine

-- a field of seventeen by its first byte and the two words behind it
module _ (s : List ℕ) (x y : ℕ) (l : length s ≡ 17) (w : bytes_of 8 x ≡ take 8 (drop 1 s)) (v : bytes_of 8 y ≡ take 8 (drop 9 s)) where
  seventeen : get_or s 0 0 ∷ (bytes_of 8 x ++ bytes_of 8 y) ≡ s
  unfolding one_by_one
  seventeen =
      ap₂ (λ (q r : List ℕ). get_or s 0 0 ∷ (q ++ r)) w v
      ∙ ap (λ (r : List ℕ). get_or s 0 0 ∷ (take 8 (drop 1 r) ++ take 8 (drop 9 r))) (listed s 17 l) ∙ sym (listed s 17 l)

  abbrev tests : Bool
  tests = (is_digit (get_or s 0 0) && every is_digit (bytes_of 8 x)) && every is_digit (bytes_of 8 y)

  pub seventeen_yes : tests ≡ true → Some (((get_or s 0 0 - 48) * 100000000 + value (bytes_of 8 x)) * 100000000 + value (bytes_of 8 y)) ≡ number_of s
  unfolding bytes_of
  seventeen_yes h =
      sym
      (in_steps (get_or s 0 0 ∷ bytes_of 8 x) (bytes_of 8 y)
      ∙ ap₂ (further_by 8) (ahead_yes (get_or s 0 0) x (and_left _ (every is_digit (bytes_of 8 y)) h)) (number_yes (bytes_of 8 y) (and_right (is_digit (get_or s 0 0) && every is_digit (bytes_of 8 x)) _ h)))
      ∙ ap number_of seventeen

  pub seventeen_no : tests ≡ false → None ≡ number_of s
  unfolding every
  seventeen_no h =
      sym (number_no (get_or s 0 0 ∷ (bytes_of 8 x ++ bytes_of 8 y)) (steps_every is_digit (get_or s 0 0 ∷ bytes_of 8 x) (bytes_of 8 y) ∙ h))
      ∙ ap number_of seventeen
