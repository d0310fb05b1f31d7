-- A date read two digits at a time is the date that its six digits read as.
-- Assumes nothing.
use Rattle.std.proofs.Common.{Option, Some, None, ℕ}
use Prim.Native.Nat.{ℕ, ◌+◌, ◌*◌, ◌/◌, ◌%◌, ◌<◌}
use mathlib.Core.Path.{◌≡◌, refl, ap, sym, ◌∙◌}
use mathlib.Core.List.{List}
use mathlib.Core.Bool.{true, false}
use native.Mathlib.Omega.{arith}
use lib.ListN.{length}
use Rattle.dates.specs.Dates.{day_of, read_day}
use Rattle.dates.specs.declared.Date.{Date}
use Rattle.fields.specs.Bytes.{every, is_digit, part}
use Rattle.fields.specs.Numbers.{value, number_of, pairs_of, paired}
use Rattle.fields.proofs.Values.{number_is, number_not, number_yes}
use Rattle.fields.proofs.Width.{below_at}

-- three numbers of two digits of sixteen bits each, behind an empty one
module _ (y m d : ℕ) (hy : y < 100) (hm : m < 100) (hd : d < 100) where
  abbrev side_by_side : ℕ
  side_by_side = ((y * 65536 + m) * 65536 + d) * 65536 + 0

  year_in : side_by_side / 0x1000000000000 % 0x100 ≡ y
  year_in =
      let above : side_by_side / 0x1000000000000 ≡ y = omega arith in
      let own : y % 0x100 ≡ y = omega arith in
      ap (λ (z : ℕ). z % 0x100) above ∙ own

  month_in : side_by_side / 0x100000000 % 0x100 ≡ m
  month_in =
      let above : side_by_side / 0x100000000 ≡ y * 65536 + m = omega arith in
      let own : (y * 65536 + m) % 0x100 ≡ m = omega arith in
      ap (λ (z : ℕ). z % 0x100) above ∙ own

  day_in : side_by_side / 0x10000 % 0x100 ≡ d
  day_in =
      let above : side_by_side / 0x10000 ≡ (y * 65536 + m) * 65536 + d = omega arith in
      let own : ((y * 65536 + m) * 65536 + d) % 0x100 ≡ d = omega arith in
      ap (λ (z : ℕ). z % 0x100) above ∙ own

  same_day : day_of (2000 + side_by_side / 0x1000000000000 % 0x100) (side_by_side / 0x100000000 % 0x100) (side_by_side / 0x10000 % 0x100) ≡ day_of (2000 + y) m d
  same_day = rw (year_in, month_in, day_in)

-- six digits have days below 100, and nothing before them
few_days : (n : ℕ) → n < 1000000 → n / 10000 < 100
few_days n h = omega arith

two_digits : (n : ℕ) → n % 100 < 100
two_digits n = omega arith

whole_days : (n : ℕ) → n < 1000000 → n / 10000 % 100 ≡ n / 10000
whole_days n h = let k = few_days n h in omega arith

none_before : (n : ℕ) → n < 1000000 → n / 1000000 ≡ 0
none_before n h = omega arith

as_numbers : (n : ℕ) → n < 1000000 → pairs_of n ≡ ((n % 100 * 65536 + n / 100 % 100) * 65536 + n / 10000) * 65536 + 0
as_numbers n h = rw (whole_days n h, none_before n h)

pub day_by_pairs : (p n : ℕ) → n < 1000000 → p ≡ pairs_of n → day_of (2000 + p / 0x1000000000000 % 0x100) (p / 0x100000000 % 0x100) (p / 0x10000 % 0x100) ≡ read_day n
unfolding read_day
day_by_pairs p n h e =
    ap (λ (z : ℕ). day_of (2000 + z / 0x1000000000000 % 0x100) (z / 0x100000000 % 0x100) (z / 0x10000 % 0x100)) (e ∙ as_numbers n h)
    ∙ same_day (n % 100) (n / 100 % 100) (n / 10000) (two_digits n) (two_digits (n / 100)) (few_days n h)

pairs_one : (a b : ℕ) → Some a ≡ Some b → a ≡ b
pairs_one a b h = cc

some_pairs : (n : ℕ) → Some n ≡ None → ⊥
some_pairs n h = let z : ◌≡◌ {A = ℕ} 0 1 = cc in omega arith

-- a field of six digits that the code read in pairs
module _ (s : List ℕ) (d : Option ℕ) (e : d ≡ paired (number_of s)) where
  pub pairs_fail : d ≡ None → every is_digit s ≡ false
  pairs_fail h = go (number_of s) refl (sym e ∙ h)
    where
      go : (x : Option ℕ) → number_of s ≡ x → paired x ≡ None → every is_digit s ≡ false
      go (Some n) g k = absurd (some_pairs (pairs_of n) k)
      go None g k = number_not s g

  pub pairs_pass : (p : ℕ) → d ≡ Some p → (every is_digit s ≡ true) × (p ≡ pairs_of (value s))
  pairs_pass p h = go (number_of s) refl (sym e ∙ h)
    where
      go : (x : Option ℕ) → number_of s ≡ x → paired x ≡ Some p → (every is_digit s ≡ true) × (p ≡ pairs_of (value s))
      go (Some n) g k =
          let both = number_is s n g in
          (both.0, sym (pairs_one (pairs_of n) p k) ∙ ap pairs_of (sym both.1))
      go None g k = absurd (some_pairs p (sym k))

-- a date field of digits has six of them
pub six_digits : (r : List ℕ) → length r ≡ 81 → every is_digit (part 16 21 r) ≡ true → value (part 16 21 r) < 1000000
six_digits r h e = below_at 16 21 r _ (omega arith) (number_yes (part 16 21 r) e)

-- a date field that was read in pairs, and of them a day or none: its bytes are digits, and they read as that
pub date_read : (r : List ℕ) (d : Option ℕ) (p : ℕ) (x : Option Date) → length r ≡ 81 → d ≡ paired (number_of (part 16 21 r)) → d ≡ Some p
    → ((n : ℕ) → n < 1000000 → p ≡ pairs_of n → x ≡ read_day n)
    → (every is_digit (part 16 21 r) ≡ true) × (read_day (value (part 16 21 r)) ≡ x)
date_read r d p x l e g h =
    let pass = pairs_pass (part 16 21 r) d e p g in
    (pass.0, sym (h (value (part 16 21 r)) (six_digits r l pass.0) pass.1))
