-- One record taken: the step, and what then stands in the keys and the figures that are lent beside the state.
-- Assumes nothing.
use Rattle.std.specs.Prelude.{ℕ, ◌≤◌, ◌≡◌, List, eqb, length, take, if◌then◌else◌, Ok, Err}
use Rattle.figures.specs.declared.totals.AssignmentTotals.{AssignmentTotals}
use Rattle.limits.specs.Limits.{most_records, most_assignments}
use Rattle.rules.specs.Codes.{number_of_kind}
use Rattle.rules.specs.Growth.{keys_for}
use Rattle.rules.specs.declared.Kind.{Kind}
use Rattle.rules.specs.declared.State.{State}
use Rattle.run_growth.specs.Bounds.{Small}
use Rattle.run_figures.specs.Slots.{put_from, with_figures}
use Rattle.rules.specs.Run.{Step}

-- as many keys as there are assignments count
abbrev pub keys_of : State → List ℕ → List ℕ
keys_of st keys = take st.file.assignments.0 keys

-- figures that cannot wrap, and a slot for each key
pub record Ready (st : State) (keys : List ℕ) : Type 0 where
  pub small : Small most_records st
  pub few : st.file.assignments.0 ≤ most_assignments
  pub slots : length keys ≡ most_assignments

-- a 20 ends what stood before it, and puts its figures after the others
unfoldable pub ended_by : Kind → ℕ → AssignmentTotals → List ℕ → List ℕ
ended_by k n t l = if eqb (number_of_kind k) 20 then with_figures n t l else l

-- where the step stops, all is as it was
unfoldable pub on_next : Step → List ℕ → List ℕ → List ℕ
on_next (Ok s) next was = next
on_next (Err e) next was = was

-- the step that is expected of a record of this type, its key after those before, and the figures of what it ends
pub record Took (expected : Step) (k : Kind) (st : State) (r keys figures : List ℕ) (x : Step) (keys' figures' : List ℕ) : Type 0 where
  pub step : x ≡ expected
  pub keyed : keys' ≡ on_next x (put_from st.file.assignments.0 (keys_for k r) keys) keys
  pub figured : figures' ≡ on_next x (ended_by k st.file.assignments.0 st.assignment.totals figures) figures
