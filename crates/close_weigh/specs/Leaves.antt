-- Document 01, "Closing, joining, parting": what weighing a draft leaves, room for the end records and the figures of the assignments.
-- Assumes nothing.
use Rattle.std.specs.Prelude.{ℕ, ◌≤◌, ◌≡◌, List, Ok}
use Rattle.figures.specs.declared.totals.Totals.{Totals}
use Rattle.limits.specs.Limits.{most_records}
use Rattle.rules.specs.Growth.{start}
use Rattle.rules.specs.Run.{records_of}
use Rattle.run_figures.specs.Blocks.{blocks}
use Rattle.run_loop.specs.Left.{Roomy}
use Rattle.run_figures.specs.Slots.{Holding}
use Rattle.rules.specs.Refusals.{Verdict}

-- figures that leave room for the end records
pub record CanClose (t : Totals) : Type 0 where
  pub records : t.records.0 ≤ most_records
  pub assignments : t.assignments.0 ≤ most_records

-- the figures that are left of the assignments of an accepted draft
pub record LeftBy (d figures : List ℕ) (x : Verdict) : Type 0 where
  pub left : (t : Totals) → x ≡ Ok t → Roomy figures → Holding figures 0 (blocks start.assignment (records_of d))
