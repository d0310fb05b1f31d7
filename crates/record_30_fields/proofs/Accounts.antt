-- Field 7 of a record 30: its two rows by what reading the account answers, and by what excuses a wrong account.
-- Assumes nothing.
use Prim.Native.Nat.{ℕ}
use mathlib.Core.Path.{◌≡◌, sym, ◌∙◌, ap}
use mathlib.Core.List.{List}
use mathlib.Core.Bool.{Bool, true, false, not, ◌&&◌, ◌||◌}
use lib.Dec.{eqb}
use native.Mathlib.Omega.{arith}
use Rattle.std.specs.Prelude.{if◌then◌else◌}
use Rattle.fields.specs.Bytes.{part}
use Rattle.fields.specs.Accounts.{Account, account_of, is_right, is_number}
use Rattle.fields.specs.Kids.{is_reference}
use Rattle.figures.specs.declared.totals.Totals.{Totals}
use Rattle.layout.specs.Findings.{demanded, account_found, sound}
use Rattle.layout.specs.Rows.{first_fault}
use Rattle.layout.proofs.Laws.{demands}
use Rattle.layout.proofs.Accounts.{number_in_account}
use Rattle.rules.specs.Codes.{service_code, type_code}
use Rattle.rules.specs.Payments.{party_form, party_right}
use Rattle.rules.specs.Layouts.{party30}
use Rattle.layout.specs.Findings.{Finding}
use Rattle.layout.specs.declared.Reason.TheVariants.{WrongForm, WrongAccount}

-- the two rows for an account's answer: whether the service is 01, the field a reference, the type 04
abbrev two_rows : Account → Bool → Bool → Bool → Finding
two_rows x one reference four = demanded (demanded sound (is_number x || one && reference) WrongForm 7) (is_right x || (if one then reference else four)) WrongAccount 7

rows : (f : Totals) (ks r : List ℕ)
    → first_fault f ks r (party30 r) ≡ two_rows (account_of (part 22 32 r)) (eqb (service_code r) 1) (is_reference (part 22 32 r)) (eqb (type_code r) 4)
unfolding party_form party_right
rows f ks r =
    demands f ks r (party30 r)
    ∙ ap
    (λ (b : Bool).
    demanded (demanded sound (b || eqb (service_code r) 1 && is_reference (part 22 32 r)) WrongForm 7)
    (is_right (account_of (part 22 32 r)) || (if eqb (service_code r) 1 then is_reference (part 22 32 r) else eqb (type_code r) 4)) WrongAccount 7)
    (sym (number_in_account (part 22 32 r)))

-- with no excuse the account's answer decides: a reference of service 01, or digits of any sort for type 04 of service 04
decided : (x : Account) (one reference four : Bool) → two_rows x one reference four ≡ (if one && reference || not one && four && is_number x then sound else account_found x 7)
decided x one reference four = grind arith

right_found : (x : Account) → is_right x ≡ true → account_found x 7 ≡ sound
right_found x h = grind arith

-- the same of the field of a record of the service
module _ (f : Totals) (ks r : List ℕ) (s : ℕ) (e : s ≡ service_code r) where
  as_rows : first_fault f ks r (party30 r) ≡ two_rows (account_of (part 22 32 r)) (eqb s 1) (is_reference (part 22 32 r)) (eqb (type_code r) 4)
  as_rows =
      rows f ks r
      ∙ ap (λ (x : ℕ). two_rows (account_of (part 22 32 r)) (eqb x 1) (is_reference (part 22 32 r)) (eqb (type_code r) 4)) (sym e)

  pub right_sound : is_right (account_of (part 22 32 r)) ≡ true → first_fault f ks r (party30 r) ≡ sound
  right_sound h = let x = account_of (part 22 32 r) in grind (arith, as_rows, decided x (eqb s 1) (is_reference (part 22 32 r)) (eqb (type_code r) 4), right_found x h)

  pub reference_sound : eqb s 1 && is_reference (part 22 32 r) ≡ true → first_fault f ks r (party30 r) ≡ sound
  reference_sound h = let x = account_of (part 22 32 r) in grind (arith, as_rows, decided x (eqb s 1) (is_reference (part 22 32 r)) (eqb (type_code r) 4))

  pub type_sound : not (eqb s 1) && eqb (type_code r) 4 && is_number (account_of (part 22 32 r)) ≡ true → first_fault f ks r (party30 r) ≡ sound
  type_sound h = let x = account_of (part 22 32 r) in grind (arith, as_rows, decided x (eqb s 1) (is_reference (part 22 32 r)) (eqb (type_code r) 4))

  pub account_decides : eqb s 1 && is_reference (part 22 32 r) ≡ false
      → not (eqb s 1) && eqb (type_code r) 4 && is_number (account_of (part 22 32 r)) ≡ false
      → first_fault f ks r (party30 r) ≡ account_found (account_of (part 22 32 r)) 7
  account_decides h g = let x = account_of (part 22 32 r) in grind (arith, as_rows, decided x (eqb s 1) (is_reference (part 22 32 r)) (eqb (type_code r) 4))
