-- An account's bytes by their weights, what they have over the digits, and how much the digits come to.
-- Assumes nothing.
use Prim.Native.Nat.{ℕ, ◌+◌, ◌-◌, ◌*◌, ◌≤◌}
use mathlib.Core.Path.{◌≡◌, refl, ap, ◌∙◌}
use mathlib.Core.List.{List, [], ◌∷◌}
use mathlib.Core.Bool.{true, false}
use native.Mathlib.Nat.{add-mul, mul-le-mul_right, not-suc-le-zero, le_of_suc-le-suc}
use native.Mathlib.Omega.{arith}
use lib.ListN.{length}
use Rattle.field_bytes.specs.Bytes.{every, is_digit}
use Rattle.field_accounts.specs.Accounts.{weights, weighted, account_of, judged, last_digit, remainder}
use Rattle.field_accounts.specs.OnTheWay.{weighed}
use Rattle.field_accounts.specs.declared.Account.TheVariants.{NotDigits}
use Rattle.field_bytes.proofs.Tests.{and_left, and_right}
use Rattle.field_bytes.proofs.Every.{digit_low, digit_high}

total : List ℕ → ℕ
total [] = 0
total (w ∷ ws) = w + total ws

-- of digits, each byte is 48 over its digit
over : (ws s : List ℕ) → length ws ≤ length s → every is_digit s ≡ true → weighed ws s ≡ weighted ws s + 48 * total ws
unfolding every weighed weighted total
over [] s l h = refl
over (w ∷ ws) [] l h = absurd (not-suc-le-zero l)
over (w ∷ ws) (b ∷ s) l h =
    let d : b ≡ b - 48 + 48 = omega (arith, digit_low b (and_left (is_digit b) (every is_digit s) h)) in
    let p : b * w ≡ (b - 48) * w + 48 * w = ap (λ (x : ℕ). x * w) d ∙ add-mul (b - 48) 48 w in
    omega (arith, p, over ws s (le_of_suc-le-suc l) (and_right (is_digit b) (every is_digit s) h))

pub digits_over : (s : List ℕ) → length s ≡ 11 → every is_digit s ≡ true → weighed weights s ≡ weighted weights s + 1968
unfolding total
digits_over s l h = over weights s (omega arith) h

-- of digits, each is at most 9
most : (ws s : List ℕ) → every is_digit s ≡ true → weighted ws s ≤ 9 * total ws
unfolding every weighted total
most [] s h = omega arith
most (w ∷ ws) [] h = omega arith
most (w ∷ ws) (b ∷ s) h =
    let d : b - 48 ≤ 9 = omega (arith, digit_high b (and_left (is_digit b) (every is_digit s) h)) in
    omega (arith, mul-le-mul_right w d, most ws s (and_right (is_digit b) (every is_digit s) h))

pub digits_most : (s : List ℕ) → every is_digit s ≡ true → weighted weights s ≤ 369
unfolding total
digits_most s h = most weights s h

-- the answer for digits, and for anything else
module _ (s : List ℕ) where
  pub digits_judged : every is_digit s ≡ true → account_of s ≡ judged (last_digit s) (remainder s)
  unfolding account_of
  digits_judged h = rw h

  pub no_digits : every is_digit s ≡ false → account_of s ≡ NotDigits
  unfolding account_of
  no_digits h = rw h
