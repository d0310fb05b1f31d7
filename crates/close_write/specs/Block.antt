-- Document 01, "Closing, joining, parting": one assignment of a sound draft, and what is written for it.
-- Assumes nothing.
use Rattle.std.specs.Prelude.{ℕ, ◌+◌, ◌-◌, ◌*◌, ◌/◌, ◌≤◌, ◌<◌, ◌≡◌, List, [], ◌∷◌, ◌++◌, true, eqb, length, drop, if◌then◌else◌}
use Rattle.dates.specs.declared.Window.{Window}
use Rattle.figures.specs.Totals.{◌⊕◌, one_record, one_assignment, ◌⊞◌, undated, dated}
use Rattle.figures.specs.declared.totals.Totals.{Totals}
use Rattle.figures.specs.declared.totals.AssignmentTotals.{AssignmentTotals}
use Rattle.run_growth.specs.Bounds.{Small}
use Rattle.laws.specs.Meets.{gains, Meets}
use Rattle.operations.specs.Ends.{end_record, end89}
use Rattle.operations.specs.Closing.{opens, with_ends}
use Rattle.services.specs.Services.{code_for, service_for}
use Rattle.rules.specs.Codes.{service_code, record_code}
use Rattle.rules.specs.Growth.{opened}
use Rattle.rules.specs.Payments.{date_in, amount_in}
use Rattle.limits.specs.Limits.{record_bytes}
use Rattle.rules.specs.Run.{chunks, record_at}
use Rattle.rules.specs.declared.Assignment.{Assignment}
use Rattle.rules.specs.declared.Mode.TheVariants.{Draft}
use Rattle.rules.specs.declared.State.{State}
use Rattle.run_figures.specs.Blocks.{figures_from}

-- the records of a draft from the k-th on, and those from the k-th to before the n-th
abbrev pub records_from : ℕ → List ℕ → List (List ℕ)
records_from k d = chunks (length d / record_bytes - k) (drop (record_bytes * k) d)

abbrev pub between : ℕ → ℕ → List ℕ → List (List ℕ)
between k n d = chunks (n - k) (drop (record_bytes * k) d)

abbrev pub state : Totals → Assignment → State
state f a = record { file = f; assignment = a }

-- what a record within an assignment brings to its figures
unfoldable pub brought : List ℕ → AssignmentTotals
brought r = if eqb (record_code r) 30 then dated (amount_in r) (date_in r) else undated one_record

-- the records from the k-th on meet the rules of a draft, after some state
pub record Ahead (d : List ℕ) (k : ℕ) : Type 0 where
  pub window : Window
  pub file : Totals
  pub keys : List ℕ
  pub assignment : Assignment
  pub counted : file ≡ gains (chunks k d)
  pub meets : Meets Draft window file keys assignment (records_from k d)
  pub small : Small k (state file assignment)

-- what is written after the 10 or an 88, in a file that has the figures g so far: the next assignment and all after it, or the 89
unfoldable pub behind_end : Totals → List (List ℕ) → List (List ℕ)
behind_end g [] = end89 (g ⊕ one_record) ∷ []
behind_end g (r ∷ rs) = r ∷ with_ends (state (g ⊕ one_assignment) (opened (service_for (service_code r)))) rs

-- the assignment that opens after the first k records ends before the n-th, with the figures t when its 88 is counted
pub record Block (d : List ℕ) (k n : ℕ) (t : AssignmentTotals) : Type 0 where
  pub more : k < n
  pub most : n ≤ length d / record_bytes
  pub ahead : Ahead d n
  pub opener : n < length d / record_bytes → opens (record_at n d) ≡ true
  -- its own figures, before the 88 is counted: the run left them
  pub own : AssignmentTotals
  pub left : figures_from (records_from k d) ≡ own ∷ figures_from (records_from n d)
  pub single : own.totals.assignments.0 ≡ 1
  pub next : n ≡ k + own.totals.records.0
  pub ended : t ≡ own ⊞ undated one_record
  pub total : gains (chunks n d) ⊕ one_record ≡ gains (chunks k d) ⊕ t.totals
  pub same : (g : Totals)
      → behind_end g (records_from k d) ≡ between k n d ++ (end_record (code_for (service_for (service_code (record_at k d)))) 88 t.totals t.last ∷ behind_end (g ⊕ t.totals) (records_from n d))
