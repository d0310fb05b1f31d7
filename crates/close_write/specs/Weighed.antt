-- Document 01, "Closing, joining, parting": a draft that was weighed and found sound, and the pieces of what is written for it.
-- Assumes nothing.
use Rattle.std.specs.Prelude.{ℕ, ◌-◌, ◌*◌, ◌/◌, ◌≤◌, ◌<◌, ◌≡◌, List, [], false, length, take, drop}
use Rattle.dates.specs.declared.Window.{Window}
use Rattle.limits.specs.Limits.{record_bytes, most_records}
use Rattle.figures.specs.Totals.{none}
use Rattle.figures.specs.declared.totals.Totals.{Totals}
use Rattle.figures.specs.declared.totals.AssignmentTotals.{AssignmentTotals}
use Rattle.laws.specs.Meets.{Meets, Ends}
use Rattle.operations.specs.Ends.{end_record}
use Rattle.operations.specs.Closing.{closed_figures}
use Rattle.services.specs.Services.{code_for, service_for}
use Rattle.rules.specs.Codes.{service_code}
use Rattle.rules.specs.Growth.{start, gains, turns}
use Rattle.rules.specs.Run.{bad_length, records_of, record_at}
use Rattle.rules.specs.declared.Mode.TheVariants.{Draft}

-- the bytes of the records from the k-th to before the n-th
abbrev pub span : ℕ → ℕ → List ℕ → List ℕ
span k n d = take (record_bytes * n - record_bytes * k) (drop (record_bytes * k) d)

-- the 88 of the assignment that opens after the first k records, with the figures t
abbrev pub end_of : List ℕ → ℕ → AssignmentTotals → List ℕ
end_of d k t = end_record (code_for (service_for (service_code (record_at k d)))) 88 t.totals t.last

-- the records from the k-th to before the n-th stand in the draft, and there is at least one
pub record InDraft (d : List ℕ) (k n : ℕ) : Type 0 where
  pub more : k < n
  pub most : n ≤ length d / record_bytes

-- a sound draft, and the totals of the file to be written for it
pub record Weighed (d : List ℕ) (totals : Totals) : Type 0 where
  pub window : Window
  pub lengthy : bad_length d ≡ false
  pub few : length d / record_bytes ≤ most_records
  pub meets : Meets Draft window none [] start.assignment (records_of d)
  pub ends : Ends Draft (turns start.assignment (records_of d))
  pub counted : totals ≡ closed_figures (gains (records_of d))
