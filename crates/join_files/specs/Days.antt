-- Document 01, "Bytes and days": a window that a process day opens; and "Closing, joining, parting": what judging one of two files answers.
-- Assumes nothing.
use Rattle.std.specs.Prelude.{◌≡◌, Some, Result, Ok, Err}
use Rattle.dates.specs.Windows.{window_of}
use Rattle.dates.specs.declared.ProcessDay.{ProcessDay}
use Rattle.dates.specs.declared.Window.{Window}
use Rattle.join_pairs.specs.declared.Accepted.{Accepted}
use Rattle.rules.specs.Refusals.{Verdict}
use Rattle.rules.specs.declared.Refusal.{Refusal}

-- the window of a process day
pub record OnDay (w : Window) : Type 0 where
  pub day : ProcessDay
  pub opened : window_of day ≡ Some w

-- an accepted file's figures, or the refusal
abbrev pub verdict_of : Result Accepted Refusal → Verdict
verdict_of (Ok a) = Ok a.totals
verdict_of (Err x) = Err x
