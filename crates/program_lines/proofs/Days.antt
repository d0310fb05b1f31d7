-- A process day is read as a date field of a record is.
-- Assumes nothing.
use Prim.Native.Nat.{ℕ}
use mathlib.Core.Path.{◌≡◌, refl}
use Rattle.dates.specs.Dates.{day_of, read_day}
use Rattle.program_lines.specs.Days.{day_written}

pub read_alike : (n : ℕ) → day_of (day_written n).year (day_written n).month (day_written n).day ≡ read_day n
unfolding read_day
read_alike n = refl
