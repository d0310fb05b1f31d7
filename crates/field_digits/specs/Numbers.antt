-- Document 01, "Field kinds", Digits: what number a field of digits writes, and the digits that write a number.
-- Assumes nothing.
use Rattle.std.specs.Prelude.{ℕ, zero, suc, ◌+◌, ◌/◌, ◌%◌, ◌^◌, List, [], ◌∷◌, if◌then◌else◌, Option, Some, None}
use Rattle.field_bytes.specs.Bytes.{every, is_digit}
unfoldable pub use Rattle.field_words.specs.Values.{value_from}
pub use Rattle.field_words.specs.Values.{value}
pub use Rattle.field_words.specs.Words.{pairs_of}

unfoldable pub number_of : List ℕ → Option ℕ
number_of s = if every is_digit s then Some (value s) else None

-- what a field writes, its digits two by two
abbrev pub paired : Option ℕ → Option ℕ
paired (Some n) = Some (pairs_of n)
paired None = None

-- the last w digits of n, the highest first
unfoldable pub written : ℕ → ℕ → List ℕ
written zero n = []
written (suc w) n = (48 + n / 10 ^ w % 10) ∷ written w n

-- a code of two digits as a number; 100, which is no code, for other bytes
unfoldable pub code_of : List ℕ → ℕ
code_of s = if every is_digit s then value s else 100
