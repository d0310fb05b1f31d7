-- An account field: its two rows give what the map from the account's answer to a number gives.
-- Assumes nothing.
use Prim.Native.Nat.{ℕ}
use mathlib.Core.Path.{◌≡◌, refl, sym, ◌∙◌, ap}
use mathlib.Core.List.{List, [], ◌∷◌}
use mathlib.Core.Bool.{Bool, true, false}
use lib.Dec.{eqb}
use Rattle.std.specs.Prelude.{if◌then◌else◌, Ok}
use Rattle.fields.specs.Bytes.{every, is_digit, part}
use Rattle.fields.specs.Accounts.{Account, Right, WrongDigit, NoRightDigit, NotDigits, judged, right_digit, account_of, is_right, is_number, last_digit, remainder}
use Rattle.figures.specs.declared.totals.Totals.{Totals}
use Rattle.layout.specs.Findings.{demanded, account_found, sound}
use Rattle.layout.specs.Rules.{digits, right_account}
use Rattle.layout.specs.Rows.{at, first_fault}
use Rattle.layout.proofs.Laws.{demands}
use Rattle.layout.specs.declared.Reason.TheVariants.{WrongForm, WrongAccount}

judged_by : (none right : Bool) (d : ℕ) → is_number (if none then NoRightDigit else (if right then Right else WrongDigit d)) ≡ true
judged_by true right d = refl
judged_by false true d = refl
judged_by false false d = refl

judged_number : (l r : ℕ) → is_number (judged l r) ≡ true
unfolding judged
judged_number l r = judged_by (eqb r 1) (eqb l (right_digit r)) (right_digit r)

numbers_only : (digits : Bool) (x : Account) → is_number x ≡ true → is_number (if digits then x else NotDigits) ≡ digits
numbers_only true x h = h
numbers_only false x h = refl

-- an account tells whether its field is digits
pub number_in_account : (s : List ℕ) → is_number (account_of s) ≡ every is_digit s
unfolding account_of
number_in_account s = numbers_only (every is_digit s) _ (judged_number (last_digit s) (remainder s))

-- digits, then a right last digit
pub two_tests : (x : Account) (k : ℕ) → demanded (demanded sound (is_number x) WrongForm k) (is_right x) WrongAccount k ≡ account_found x k
two_tests Right k = refl
two_tests (WrongDigit d) k = refl
two_tests NoRightDigit k = refl
two_tests NotDigits k = refl

-- the rows of an account field, in 20 and wherever else one stands
pub account_rows : (f : Totals) (ks r : List ℕ) (k from to : ℕ)
    → first_fault f ks r (at k from to digits ∷ at k from to right_account ∷ []) ≡ account_found (account_of (part from to r)) k
account_rows f ks r k from to =
    demands f ks r (at k from to digits ∷ at k from to right_account ∷ [])
    ∙ ap (λ (b : Bool). demanded (demanded sound b WrongForm k) (is_right (account_of (part from to r))) WrongAccount k) (sym (number_in_account (part from to r)))
    ∙ two_tests (account_of (part from to r)) k
