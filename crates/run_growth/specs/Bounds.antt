-- How far the running figures can have grown: no count is above the records seen, and no sum above its limit. Nothing wraps.
-- Assumes nothing.
use Rattle.std.specs.Prelude.{ℕ, ◌≤◌}
use Rattle.figures.specs.Figures.{limit_wide}
use Rattle.figures.specs.declared.amounts.Amount.{Amount}
use Rattle.figures.specs.declared.totals.Totals.{Totals}
use Rattle.rules.specs.declared.State.{State}

abbrev pub WithinWide : Amount → Type 0
WithinWide a = a.0 ≤ limit_wide.0

pub record Bounded (k : ℕ) (t : Totals) : Type 0 where
  pub assignments : t.assignments.0 ≤ k
  pub transactions : t.transactions.0 ≤ k
  pub records : t.records.0 ≤ k
  pub sum : WithinWide t.sum

pub record Small (k : ℕ) (st : State) : Type 0 where
  pub file : Bounded k st.file
  pub assignment : Bounded k st.assignment.totals.totals
  pub specified : WithinWide st.assignment.group.specified
  pub credited : WithinWide st.assignment.group.credited
