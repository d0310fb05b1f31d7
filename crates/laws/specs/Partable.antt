-- Demand 3, document 01, "Closing, joining, parting": where a file may be parted, what the two parts are, and why parting refuses.
-- Assumes nothing.
use Rattle.std.specs.Prelude.{ℕ, ◌+◌, ◌-◌, ◌*◌, ◌<◌, ◌≤◌, ◌≡◌, ◌⊎◌, List, length, Ok, Err}
use Rattle.dates.specs.declared.ProcessDay.{ProcessDay}
use Rattle.figures.specs.declared.totals.Totals.{Totals}
use Rattle.limits.specs.Limits.{record_bytes}
use Rattle.rules.specs.Run.{check_of}
use Rattle.rules.specs.declared.Refusal.{Refusal}
use Rattle.rules.specs.Refusals.{refusal}
use Rattle.operations.specs.Parting.{first_part, second_part, no_boundary}
use Rattle.layout.specs.declared.Reason.TheVariants.{NoRoom}

-- k assignments go to the first part, and some are left
pub record Boundary (k : ℕ) (t : Totals) : Type 0 where
  pub some : 1 ≤ k
  pub others : k < t.assignments.0

-- why parting refuses, and with what, in the stated order: the check's own refusal, no such boundary, an output too short
pub data PartRefusing (day : ProcessDay) (b : List ℕ) (k room1 room2 : ℕ) : Refusal → Type 0 where
  own_refusal : (x : Refusal) → check_of day b ≡ Err x → PartRefusing day b k room1 room2 x
  no_such_boundary : (t : Totals) → check_of day b ≡ Ok t → (k ≡ 0) ⊎ (t.assignments.0 ≤ k) → PartRefusing day b k room1 room2 no_boundary
  short_parts : (t : Totals) → check_of day b ≡ Ok t → Boundary k t → (room1 < length (first_part k b)) ⊎ (room2 < length (second_part k b))
      → PartRefusing day b k room1 room2 (refusal NoRoom 0 0 0)

-- both parts are accepted, the first with k assignments, the second with the others
pub record PartsAccepted (day : ProcessDay) (b : List ℕ) (k : ℕ) (t : Totals) : Type 0 where
  pub first : Totals
  pub second : Totals
  pub first_accepted : check_of day (first_part k b) ≡ Ok first
  pub second_accepted : check_of day (second_part k b) ≡ Ok second
  pub first_many : first.assignments.0 ≡ k
  pub second_many : second.assignments.0 ≡ t.assignments.0 - k
  -- as many bytes as their figures say, and a record 10 and an 89 more than the file
  pub first_length : length (first_part k b) ≡ record_bytes * first.records.0
  pub second_length : length (second_part k b) ≡ record_bytes * second.records.0
  pub both_lengths : length (first_part k b) + length (second_part k b) ≡ length b + 2 * record_bytes
  pub first_shorter : length (first_part k b) ≤ length b
  pub second_shorter : length (second_part k b) ≤ length b
