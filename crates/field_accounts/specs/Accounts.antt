-- Document 01, "Field kinds", Account: eleven digits, of which the last follows from the ten before it.
-- Assumes nothing.
use Rattle.std.specs.Prelude.{ℕ, ◌+◌, ◌-◌, ◌*◌, ◌%◌, List, [], ◌∷◌, Bool, true, false, eqb, get_or, if◌then◌else◌}
use Rattle.field_bytes.specs.Bytes.{every, is_digit}
use Rattle.field_accounts.specs.declared.Account.{Account}
use Rattle.field_accounts.specs.declared.Account.TheVariants.{Right, WrongDigit, NoRightDigit, NotDigits}

abbrev pub weights : List ℕ
weights = 5 ∷ 4 ∷ 3 ∷ 2 ∷ 7 ∷ 6 ∷ 5 ∷ 4 ∷ 3 ∷ 2 ∷ []

-- each digit times its weight
unfoldable pub weighted : List ℕ → List ℕ → ℕ
weighted [] s = 0
weighted (w ∷ ws) [] = 0
weighted (w ∷ ws) (b ∷ s) = (b - 48) * w + weighted ws s

-- the sum's remainder by 11
abbrev pub remainder : List ℕ → ℕ
remainder s = weighted weights s % 11

-- the last digit that is right for a remainder; for 1 it would be ten, which is no digit
unfoldable pub right_digit : ℕ → ℕ
right_digit r = if eqb r 0 then 0 else 11 - r

abbrev pub last_digit : List ℕ → ℕ
last_digit s = get_or s 10 0 - 48

-- what the last digit l is to the remainder r
unfoldable pub judged : ℕ → ℕ → Account
judged l r = if eqb r 1 then NoRightDigit else (if eqb l (right_digit r) then Right else WrongDigit (right_digit r))

unfoldable pub account_of : List ℕ → Account
account_of s = if every is_digit s then judged (last_digit s) (remainder s) else NotDigits

-- the last digit is right: the test of refusal 11, for a field that is digits
abbrev pub is_right : Account → Bool
is_right Right = true
is_right (WrongDigit d) = false
is_right NoRightDigit = false
is_right NotDigits = false

-- the field is digits: the test of refusal 8
abbrev pub is_number : Account → Bool
is_number Right = true
is_number (WrongDigit d) = true
is_number NoRightDigit = true
is_number NotDigits = false
