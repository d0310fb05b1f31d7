-- The figures that are shown as right for an end record are those that the rules ask for.
-- Assumes nothing.
use Prim.Native.Nat.{ℕ}
use mathlib.Core.Path.{◌≡◌, refl}
use mathlib.Core.List.{List, [], ◌∷◌, ◌++◌}
use Rattle.figures.specs.declared.totals.Totals.{Totals}
use Rattle.layout.specs.Rows.{at, figure_of, transactions, records, sum, first_date}
use Rattle.layout.specs.Rules.{zeros}
use Rattle.rules.specs.Fields.{transactions_field, records_field, sum_field, first_date_field, last_date_field}
use Rattle.rules.specs.Layouts.{head88, own, record88}
use Rattle.rules.specs.declared.Assignment.{Assignment}
use Rattle.rules.specs.declared.Kind.TheVariants.{R88, R89}
use Rattle.tool_walk.specs.Seen.{told}
use Rattle.tool_fixed.specs.declared.Remedy.{Remedy}
use Rattle.tool_fixed.specs.declared.Remedy.TheVariants.{Unknown, Value, Start, Zeros, OneOf, AboveZero, NoneLeft, Digit, NoDigit}
use Rattle.tool_expected.specs.Expected.{figure_in, figure_for}

-- the number that is shown
abbrev shown : Remedy → ℕ
shown Unknown = 0
shown (Value n w) = n
shown Start = 0
shown Zeros = 0
shown (OneOf x) = 0
shown AboveZero = 0
shown NoneLeft = 0
shown (Digit d) = d
shown NoDigit = 0

-- an 88 is held to the figures that are shown for it
pub asks_88 : (f : Totals) (a : Assignment) (r : List ℕ)
    → record88 a r
    ≡ head88 a r ++
    own transactions_field r (shown (figure_for R88 5 (told f a))) ++
    own records_field r (shown (figure_for R88 6 (told f a))) ++
    own sum_field r (shown (figure_for R88 7 (told f a))) ++
    own first_date_field r (shown (figure_for R88 8 (told f a))) ++
    own last_date_field r (shown (figure_for R88 9 (told f a))) ++
    (at 10 54 80 zeros ∷ [])
unfolding figure_in
asks_88 f a r = refl

-- an 89 to those of the file
pub asks_89 : (f : Totals) (a : Assignment)
    → (shown (figure_for R89 5 (told f a)) ≡ figure_of transactions f) × (shown (figure_for R89 6 (told f a)) ≡ figure_of records f)
    × (shown (figure_for R89 7 (told f a)) ≡ figure_of sum f) × (shown (figure_for R89 8 (told f a)) ≡ figure_of first_date f)
unfolding figure_in
asks_89 f a = (refl, refl, refl, refl)
