-- The figures of assignments in lent slots: five numbers for each, one after the other. How they are put there, and how they are read again.
-- Assumes nothing.
use Rattle.std.specs.Prelude.{ℕ, zero, suc, ◌+◌, ◌-◌, ◌*◌, ◌≤◌, ◌<◌, ◌≡◌, List, [], ◌∷◌, ◌++◌, leb, length, get_or, take, drop, if◌then◌else◌}
use Rattle.dates.specs.Dates.{date}
use Rattle.figures.specs.Figures.{amount, count, Fits}
use Rattle.figures.specs.Totals.{none, ◌⊕◌}
use Rattle.limits.specs.Limits.{most_records}
use Rattle.figures.specs.declared.totals.Totals.{Totals}
use Rattle.figures.specs.declared.totals.AssignmentTotals.{AssignmentTotals}
use Rattle.run_growth.specs.Bounds.{Bounded}

-- transactions, records, sum, first and last date
unfoldable pub slots : AssignmentTotals → List ℕ
slots t = t.totals.transactions.0 ∷ t.totals.records.0 ∷ t.totals.sum.0 ∷ t.totals.first.0 ∷ t.last.0 ∷ []

unfoldable pub all_slots : List AssignmentTotals → List ℕ
all_slots [] = []
all_slots (t ∷ ts) = slots t ++ all_slots ts

-- numbers put into slots from the n-th on; no other slot changes
unfoldable pub put_from : ℕ → List ℕ → List ℕ → List ℕ
put_from n xs l = take n l ++ xs ++ drop (n + length xs) l

-- the figures of an assignment put after those of n others; nothing changes where there is no room
unfoldable pub with_figures : ℕ → AssignmentTotals → List ℕ → List ℕ
with_figures n t l = if leb (5 * n + 5) (length l) then put_from (5 * n) (slots t) l else l

-- read again: the five numbers of the j-th assignment
unfoldable pub entry : List ℕ → ℕ → AssignmentTotals
entry l j =
    record {
      totals =
          record {
            assignments = count 1;
            transactions = count (get_or l (5 * j) 0);
            records = count (get_or l (5 * j + 1) 0);
            sum = amount (get_or l (5 * j + 2) 0);
            first = date (get_or l (5 * j + 3) 0);
          };
      last = date (get_or l (5 * j + 4) 0);
    }

-- n assignments from the j-th on, together
unfoldable pub summed : List ℕ → ℕ → ℕ → Totals
summed l j zero = none
summed l j (suc n) = (entry l j).totals ⊕ summed l (j + 1) n

-- five numbers that are there, and that fit where they go
pub record Legible (l : List ℕ) (j : ℕ) : Type 0 where
  pub inside : 5 * j + 5 ≤ length l
  pub transactions : Fits 32 (get_or l (5 * j) 0)
  pub records : Fits 32 (get_or l (5 * j + 1) 0)
  pub first : Fits 32 (get_or l (5 * j + 3) 0)
  pub last : Fits 32 (get_or l (5 * j + 4) 0)

-- assignments whose figures can be added up
pub record Summable (l : List ℕ) (from to : ℕ) : Type 0 where
  pub each : (j : ℕ) → from ≤ j → j < to → Legible l j
  pub bounded : Bounded most_records (summed l from (to - from))

-- from the j-th on, the slots hold these figures
pub record Holding (l : List ℕ) (j : ℕ) (ts : List AssignmentTotals) : Type 0 where
  pub behind : List ℕ
  pub is : drop (5 * j) l ≡ all_slots ts ++ behind
