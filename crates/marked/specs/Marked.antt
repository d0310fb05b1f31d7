-- Document 01, "Marked examples": ten claims about the rules themselves, in one table under one statement.
-- Assumes nothing.
use Rattle.std.specs.Prelude.{ℕ, zero, suc, ◌≡◌, refl, List, [], ◌∷◌, ◌++◌, Bool, true, false, not, ◌&&◌, eqb, ltb, Option, Some, None}
use Prim.Native.String.{String}
use Rattle.fields.specs.Bytes.{every, text}
use Rattle.fields.specs.Numbers.{number_of, value_from, written}
use Rattle.fields.specs.Accounts.{account_of, is_right, judged, right_digit, weighted}
use Rattle.dates.specs.Dates.{days_in, is_date, day_of, read_day, earlier}
use Rattle.dates.specs.Windows.{window_of, too_late, too_early}
use Rattle.dates.specs.declared.Date.{Date}
use Rattle.services.specs.declared.Service.TheVariants.{Autogiro, Remittance}
use Rattle.dates.specs.declared.Window.{Window}
use Rattle.figures.specs.Figures.{amount}
use Rattle.figures.specs.Groups.{empty_group, with_specified, with_credited, gives}
use Rattle.figures.specs.declared.groups.Group.{Group}

abbrev account : List ℕ → Bool
account s = is_right (account_of s)

-- what is claimed of the day that six digits write: it is one, and the claim holds of it
abbrev a_day : Option Date → (Date → Bool) → Bool
a_day (Some d) claim = claim d
a_day None claim = false

abbrev in_digits : Option ℕ → (Date → Bool) → Bool
in_digits (Some n) claim = a_day (read_day n) claim
in_digits None claim = false

abbrev on : String → (Date → Bool) → Bool
on s claim = in_digits (number_of (text s)) claim

-- what is claimed of the window of a process day: it has one, and the claim holds of it
abbrev opened : Option Window → (Window → Bool) → Bool
opened (Some w) claim = claim w
opened None claim = false

abbrev from : ℕ → ℕ → ℕ → (Window → Bool) → Bool
from year month day claim = opened (window_of (record { year = year; month = month; day = day })) claim

-- of every last digit
abbrev every_digit : ℕ → (ℕ → Bool) → Bool
every_digit zero claim = true
every_digit (suc n) claim = every_digit n claim && claim n

-- an example: its number, and what it claims
pub record Example : Type 0 where
  pub number : ℕ
  pub claims : List Bool

abbrev example : ℕ → List Bool → Example
example n cs = record { number = n; claims = cs }

-- the sub-specifications of example 10, and its credit note
abbrev group : Group
group = with_credited (with_specified (with_specified (with_specified empty_group (amount 50000)) (amount 40000)) (amount 10000)) (amount 20000)

abbrev pub marked : List Example
marked =
    example 1 (account (text "12345678903") ∷ []) ∷
    example 2 (not (account (text "12345678901")) ∷ []) ∷
    example 3 (account (text "00000000000") ∷ []) ∷
    example 4 (every_digit 10 (λ d. not (account (text "0000000006" ++ written 1 d))) ∷ []) ∷
    example 5 (on "290224" (λ d. true) ∷ not (on "290225" (λ d. true)) ∷ []) ∷
    example 6
    (from 2025 10 1 (λ w. on "011026" (λ d. not (too_late w d))) ∷
    from 2025 10 1 (λ w. on "021026" (λ d. too_late w d)) ∷ []) ∷
    example 7
    (from 2025 10 1 (λ w. on "300924" (λ d. too_early w Autogiro d && not (too_early w Remittance d))) ∷
    from 2025 10 1 (λ w. on "011024" (λ d. not (too_early w Autogiro d) && not (too_early w Remittance d))) ∷ []) ∷
    example 8
    (from 2024 2 29 (λ w. on "280225" (λ d. not (too_late w d))) ∷
    from 2024 2 29 (λ w. on "010325" (λ d. too_late w d)) ∷ []) ∷
    example 9 (on "311225" (λ d. on "010126" (λ e. ltb d.0 e.0 && eqb (earlier e d).0 d.0)) ∷ []) ∷
    example 10 (gives group (amount 80000) ∷ []) ∷
    []

abbrev all : List Bool → Bool
all [] = true
all (c ∷ cs) = c && all cs

abbrev pub hold : List Example → Bool
hold [] = true
hold (e ∷ es) = all e.claims && hold es

-- every claim of every marked example is true of the rules
pub marked_hold : hold marked ≡ true
unfolding every value_from number_of written account_of judged right_digit weighted days_in is_date day_of read_day earlier window_of too_late too_early gives
marked_hold = refl
