-- Document 01, "Refusal numbers": a record's rules are rows in the stated order, and its fault is that of the first row that does not hold.
-- Assumes nothing.
use Rattle.std.specs.Prelude.{ℕ, ◌+◌, ◌≡◌, List, [], ◌∷◌, Bool, true, false, not, ◌||◌, ltb, eqb, if◌then◌else◌, Ok, Err}
use Rattle.limits.specs.Limits.{most_assignments}
use Rattle.fields.specs.Bytes.{part}
use Rattle.dates.specs.Dates.{ddmmyy}
use Rattle.figures.specs.Figures.{within, limit_wide}
use Rattle.figures.specs.declared.amounts.Amount.{Amount}
use Rattle.figures.specs.declared.totals.Totals.{Totals}
use Rattle.layout.specs.Rules.{Rule}
use Rattle.layout.specs.declared.Reason.{Reason}
use Rattle.layout.specs.Findings.{Finding, fault, sound}

-- the figures of record 89
pub data Figure : Type 0 where
  transactions records sum first_date : Figure

-- what a rule may ask of the file so far: that its sum takes an amount more, that no assignment before had the key,
-- that there is room for one assignment more, that a figure is the number
pub data FileTest : Type 0 where
  takes : Amount → FileTest
  fresh : ℕ → FileTest
  room : FileTest
  figure : Figure → ℕ → FileTest

-- three sorts of row: a rule on the bytes of a field, which looks at the record alone;
-- a test of the record against its assignment or the process day; a test of the file
pub data Row : Type 0 where
  at : ℕ → ℕ → ℕ → Rule → Row
  must : Bool → Reason → ℕ → Row
  file : FileTest → Reason → ℕ → Row

unfoldable pub member : ℕ → List ℕ → Bool
member k [] = false
member k (x ∷ xs) = eqb k x || member k xs

-- 89 counts itself
abbrev pub figure_of : Figure → Totals → ℕ
figure_of transactions f = f.transactions.0
figure_of records f = f.records.0 + 1
figure_of sum f = f.sum.0
figure_of first_date f = ddmmyy f.first

-- of a file with these totals and these keys
abbrev pub holds : Totals → List ℕ → FileTest → Bool
holds f ks (takes a) = within f.sum a limit_wide
holds f ks (fresh k) = not (member k ks)
holds f ks room = ltb f.assignments.0 most_assignments
holds f ks (figure w v) = eqb v (figure_of w f)

-- what a row gives where it does not hold
abbrev pub row_reason : Row → Reason
row_reason (at field from to x) = x.reason
row_reason (must t n field) = n
row_reason (file t n field) = n

abbrev pub row_field : Row → ℕ
row_field (at field from to x) = field
row_field (must t n field) = field
row_field (file t n field) = field

module _ (f : Totals) (ks : List ℕ) (r : List ℕ) where
  abbrev pub passes : Row → Bool
  passes (at field from to x) = x.test (part from to r)
  passes (must t n field) = t
  passes (file t n field) = holds f ks t

  unfoldable pub first_fault : List Row → Finding
  first_fault [] = sound
  first_fault (w ∷ ws) = if passes w then first_fault ws else Err (fault (row_reason w) (row_field w))

  -- every row holds
  unfoldable pub AllHold : List Row → Type 0
  AllHold [] = Unit {0}
  AllHold (w ∷ ws) = (passes w ≡ true) × AllHold ws

-- a row that looks at the record alone
abbrev pub alone : Row → Bool
alone (at field from to x) = true
alone (must t n field) = false
alone (file t n field) = false

-- the others: they ask the assignment, the process day or the file
unfoldable pub other_rows : List Row → List Row
other_rows [] = []
other_rows (w ∷ ws) = if alone w then other_rows ws else (w ∷ other_rows ws)
