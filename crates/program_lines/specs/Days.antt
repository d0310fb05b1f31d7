-- Document 01, "One file whole": the process day that a line DDMMYY names, by "Bytes and days" a day of the years 2000 to 2099.
-- Assumes nothing.
use Rattle.std.specs.Prelude.{ℕ, ◌+◌, ◌/◌, ◌%◌}
use Rattle.dates.specs.declared.ProcessDay.{ProcessDay}

abbrev pub day_written : ℕ → ProcessDay
day_written n = record { year = 2000 + n % 100; month = n / 100 % 100; day = n / 10000 }
