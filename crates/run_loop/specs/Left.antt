-- What a run over a whole input leaves beside its verdict: the keys of the assignments and their figures, in the order in which they came.
-- Assumes nothing.
use Rattle.std.specs.Prelude.{ℕ, ◌+◌, ◌*◌, ◌≤◌, ◌≡◌, List, [], length, take, Ok}
use Rattle.limits.specs.Limits.{figure_slots}
use Rattle.figures.specs.declared.totals.Totals.{Totals}
use Rattle.dates.specs.declared.Window.{Window}
use Rattle.rules.specs.Growth.{start, all_keys}
use Rattle.rules.specs.Run.{run, records_of}
use Rattle.rules.specs.declared.Mode.{Mode}
use Rattle.run_figures.specs.Slots.{all_slots}
use Rattle.run_figures.specs.Blocks.{blocks}
use Rattle.rules.specs.Refusals.{Verdict}

-- room for the figures of all assignments that there can be
abbrev pub Roomy : List ℕ → Type 0
Roomy figures = figure_slots ≤ length figures

-- the keys and the figures that are left where the input is accepted
pub record Left (b keys figures : List ℕ) (x : Verdict) : Type 0 where
  pub found : (t : Totals) → x ≡ Ok t → take t.assignments.0 keys ≡ all_keys (records_of b)
  pub figured : (t : Totals) → x ≡ Ok t → Roomy figures → take (5 * (t.assignments.0 + 1)) figures ≡ all_slots (blocks start.assignment (records_of b))

-- what a run over a file or a draft answers, and what it leaves
pub record Ran (m : Mode) (w : Window) (b keys figures : List ℕ) (x : Verdict) : Type 0 where
  pub verdict : x ≡ run m w 0 start [] (records_of b)
  pub leaves : Left b keys figures x
