-- Demand 2, document 01, "Closing, joining, parting": which draft is closed, why others are not, and in which order that is said.
-- Assumes nothing.
use Rattle.std.specs.Prelude.{ℕ, ◌+◌, ◌*◌, ◌≤◌, ◌<◌, ◌≡◌, List, [], true, false, length, Some, None, Ok}
use Rattle.dates.specs.Windows.{window_of}
use Rattle.dates.specs.declared.ProcessDay.{ProcessDay}
use Rattle.dates.specs.declared.Window.{Window}
use Rattle.figures.specs.Totals.{none}
use Rattle.figures.specs.declared.totals.Totals.{Totals}
use Rattle.limits.specs.Limits.{record_bytes, most_records}
use Rattle.rules.specs.Order.{may_end}
use Rattle.rules.specs.Growth.{start}
use Rattle.rules.specs.Refusals.{refused}
use Rattle.rules.specs.Run.{ended, records_of, bad_length, check_of}
use Rattle.rules.specs.declared.Mode.TheVariants.{Draft}
use Rattle.operations.specs.Closing.{to_write}
use Rattle.laws.specs.Meets.{turns, Meets, Ends, FirstFault}
use Rattle.laws.specs.Stripped.{stripped}
use Rattle.rules.specs.Refusals.{Verdict}
use Rattle.layout.specs.declared.Reason.TheVariants.{NoProcessDay, BrokenLength, TooManyRecords, EndsEarly, NotAddedUp, NoRoom}
use Rattle.layout.specs.declared.Reason.{Reason}

-- a draft that meets the rules on a process day: it may end where it ends, and its last group gives its amount
pub record LawfulDraft (day : ProcessDay) (d : List ℕ) : Type 0 where
  pub window : Window
  pub opened : window_of day ≡ Some window
  pub lengthy : bad_length d ≡ false
  pub few : to_write (records_of d) ≤ most_records
  pub meets : Meets Draft window none [] start.assignment (records_of d)
  pub ends : Ends Draft (turns start.assignment (records_of d))

-- there is an accepted file whose records without its ends are the draft's, and room for it
pub record FileFor (day : ProcessDay) (d : List ℕ) (room : ℕ) : Type 0 where
  pub file : List ℕ
  pub figures : Totals
  pub accepted : check_of day file ≡ Ok figures
  pub records : stripped file ≡ d
  pub fits : length file ≤ room

-- why closing refuses, and with what, in the stated order: each reason stands after all before it
pub data CloseRefusing (day : ProcessDay) (d : List ℕ) (room : ℕ) : Verdict → Type 0 where
  wrong_day : window_of day ≡ None → CloseRefusing day d room (refused NoProcessDay 0 0 0)
  wrong_length : (w : Window) → window_of day ≡ Some w → bad_length d ≡ true → CloseRefusing day d room (refused BrokenLength 0 0 0)
  too_many : (w : Window) → window_of day ≡ Some w → bad_length d ≡ false → most_records < to_write (records_of d) → CloseRefusing day d room (refused TooManyRecords 0 0 0)
  at_record : (w : Window) (i : ℕ) (n : Reason) (k : ℕ) → window_of day ≡ Some w → bad_length d ≡ false → to_write (records_of d) ≤ most_records
      → FirstFault Draft w none [] start.assignment (records_of d) i n k → CloseRefusing day d room (refused n 0 (i + 1) k)
  at_end : (w : Window) → window_of day ≡ Some w → bad_length d ≡ false → to_write (records_of d) ≤ most_records
      → Meets Draft w none [] start.assignment (records_of d) → may_end Draft (turns start.assignment (records_of d)) ≡ false
      → CloseRefusing day d room (refused EndsEarly 0 (length (records_of d) + 1) 0)
  last_group : (w : Window) → window_of day ≡ Some w → bad_length d ≡ false → to_write (records_of d) ≤ most_records
      → Meets Draft w none [] start.assignment (records_of d) → may_end Draft (turns start.assignment (records_of d)) ≡ true
      → ended Draft (turns start.assignment (records_of d)) ≡ false → CloseRefusing day d room (refused NotAddedUp 0 (length (records_of d) + 1) 0)
  short_output : LawfulDraft day d → room < record_bytes * to_write (records_of d) → CloseRefusing day d room (refused NoRoom 0 0 0)
