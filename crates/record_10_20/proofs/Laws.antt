-- The keys looked through one by one; the key of two numbers that were read.
-- Assumes nothing.
use Rattle.std.proofs.Common.{Some, None}
use Prim.Native.Nat.{ℕ, ◌+◌, ◌≤◌, ◌<◌}
use mathlib.Core.Path.{◌≡◌, refl, ◌∙◌, ap}
use mathlib.Core.List.{List}
use mathlib.Core.Bool.{true, false, ◌||◌}
use native.Mathlib.Numerals.{add-one}
use lib.Dec.{eqb}
use lib.ListN.{length, get_or, drop, drop_of_length-le}
use lib.Seq.{drop-cons}
use Rattle.std.specs.Prelude.{Option}
use Rattle.std.specs.Option.{unwrap_or}
use Rattle.fields.specs.Bytes.{every, is_digit}
use Rattle.fields.specs.Numbers.{number_of, value}
use Rattle.fields.proofs.Values.{number_yes}
use Rattle.layout.specs.Rows.{member}

-- ---- keys
module _ (key : ℕ) (s : List ℕ) (i : ℕ) where
  pub member_next : i < length s → eqb key (get_or s i 0) || member key (drop (i + 1) s) ≡ member key (drop i s)
  unfolding member
  member_next h = rw (add-one, drop-cons s i 0 h)

  pub member_end : length s ≤ i → member key (drop i s) ≡ false
  unfolding member
  member_end h = rw (drop_of_length-le s h)

-- a number that was read, or 0: less than its places hold, and of digits their number
pub or_zero_below : (o : Option ℕ) (bound : ℕ) → 0 < bound → ((n : ℕ) → o ≡ Some n → n < bound) → unwrap_or o 0 < bound
or_zero_below (Some n) bound some below = below n refl
or_zero_below None bound some below = some

pub or_zero_value : (s : List ℕ) (o : Option ℕ) → o ≡ number_of s → every is_digit s ≡ true → unwrap_or o 0 ≡ value s
or_zero_value s o e d = ap (λ (x : Option ℕ). unwrap_or x 0) (e ∙ number_yes s d)
