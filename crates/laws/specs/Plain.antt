-- Demand 2: the reported figures are those of the records, each by a plain definition of its own: counted, summed, the least.
-- Assumes nothing.
use Rattle.std.specs.Prelude.{ℕ, ◌+◌, ◌≡◌, List, [], ◌∷◌, eqb, ltb, length, if◌then◌else◌}
use Rattle.figures.specs.declared.totals.Totals.{Totals}
use Rattle.rules.specs.Codes.{record_code}
use Rattle.rules.specs.Payments.{amount_in, date_in}

-- the records of one type
unfoldable pub of_type : ℕ → List (List ℕ) → List (List ℕ)
of_type n [] = []
of_type n (r ∷ rs) = if eqb (record_code r) n then (r ∷ of_type n rs) else of_type n rs

unfoldable pub sum_of : List (List ℕ) → ℕ
sum_of [] = 0
sum_of (r ∷ rs) = (amount_in r).0 + sum_of rs

-- the least of the dates' numbers; 0 for no record at all
unfoldable pub least : ℕ → List (List ℕ) → ℕ
least d [] = d
least d (r ∷ rs) = if ltb (date_in r).0 d then least (date_in r).0 rs else least d rs

unfoldable pub least_date : List (List ℕ) → ℕ
least_date [] = 0
least_date (r ∷ rs) = least (date_in r).0 rs

-- the figures of a file's records
pub record FiguresOf (rs : List (List ℕ)) (t : Totals) : Type 0 where
  pub assignments : t.assignments.0 ≡ length (of_type 20 rs)
  pub transactions : t.transactions.0 ≡ length (of_type 30 rs)
  pub records : t.records.0 ≡ length rs
  pub sum : t.sum.0 ≡ sum_of (of_type 30 rs)
  pub first : t.first.0 ≡ least_date (of_type 30 rs)
