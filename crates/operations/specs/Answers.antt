-- What the operations tell a program in C or Rust: sixteen numbers for each answer, in document 01's numbers and values.
--   0         what: 0 refused, 1 accepted, 2 parted, 3 made
--   1 to 4    of a refusal: number, operand, record, field
--   5 to 9    figures: assignments, transactions, records, sum, first date
--   10        bytes written into the output, of a parting into the first
--   15        bytes written into the second output
-- A place that does not apply is 0, as 11 to 14 are always.
-- Assumes nothing.
use Rattle.std.specs.Prelude.{ℕ, List, [], ◌∷◌, Ok, Err}
use Rattle.dates.specs.declared.ProcessDay.{ProcessDay}
use Rattle.figures.specs.declared.totals.Totals.{Totals}
use Rattle.layout.specs.Findings.{number_of}
use Rattle.operations.specs.Closing.{file_bytes}
use Rattle.operations.specs.Parting.{no_boundary}
use Rattle.limits.specs.Limits.{record_bytes}
use Rattle.rules.specs.declared.Refusal.{Refusal}
use Rattle.operations.specs.Making.{Making}
use Rattle.operations.specs.Parting.{Parting}
use Rattle.rules.specs.Refusals.{Verdict}
use Rattle.operations.specs.declared.NotParted.TheVariants.{NoBoundary, Refused}

-- the process day of three numbers
abbrev pub day_from : ℕ → ℕ → ℕ → ProcessDay
day_from year month day = record { year = year; month = month; day = day }

unfoldable pub refused_numbers : Refusal → List ℕ
refused_numbers x = 0 ∷ number_of x.reason ∷ x.operand ∷ x.«record» ∷ x.field ∷ 0 ∷ 0 ∷ 0 ∷ 0 ∷ 0 ∷ 0 ∷ 0 ∷ 0 ∷ 0 ∷ 0 ∷ 0 ∷ []

-- the figures of a file, and how many bytes were written
unfoldable pub accepted_numbers : Totals → ℕ → List ℕ
accepted_numbers t written =
    1 ∷ 0 ∷ 0 ∷ 0 ∷ 0 ∷ t.assignments.0 ∷ t.transactions.0 ∷ t.records.0 ∷ t.sum.0 ∷ t.first.0 ∷ written ∷ 0 ∷ 0 ∷ 0 ∷ 0 ∷ 0 ∷ []

-- checking writes nothing
unfoldable pub checked_numbers : Verdict → List ℕ
checked_numbers (Ok t) = accepted_numbers t 0
checked_numbers (Err x) = refused_numbers x

-- closing and joining write the file that the figures are of
unfoldable pub written_numbers : Verdict → List ℕ
written_numbers (Ok t) = accepted_numbers t (file_bytes t)
written_numbers (Err x) = refused_numbers x

-- parting writes two files, and answers no figures
unfoldable pub parted_numbers : Parting → List ℕ
parted_numbers (Ok e) = 2 ∷ 0 ∷ 0 ∷ 0 ∷ 0 ∷ 0 ∷ 0 ∷ 0 ∷ 0 ∷ 0 ∷ e.0 ∷ 0 ∷ 0 ∷ 0 ∷ 0 ∷ e.1 ∷ []
parted_numbers (Err (NoBoundary assignments)) = refused_numbers no_boundary
parted_numbers (Err (Refused x)) = refused_numbers x

-- making writes one record
unfoldable pub made_numbers : Making → List ℕ
made_numbers (Ok u) = 3 ∷ 0 ∷ 0 ∷ 0 ∷ 0 ∷ 0 ∷ 0 ∷ 0 ∷ 0 ∷ 0 ∷ record_bytes ∷ 0 ∷ 0 ∷ 0 ∷ 0 ∷ 0 ∷ []
made_numbers (Err x) = refused_numbers x
