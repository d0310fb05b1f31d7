-- Document 01, "Bytes and days": too late and too early, as the process day settles them.
-- Assumes nothing.
use Rattle.std.specs.Prelude.{◌+◌, ◌-◌, Bool, not, ◌&&◌, ltb, Option, Some, None}
use Rattle.dates.specs.Dates.{date, day_of}
use Rattle.dates.specs.declared.Date.{Date}
use Rattle.services.specs.declared.Service.{Service}
use Rattle.services.specs.declared.Service.TheVariants.{Autogiro, Remittance}
use Rattle.dates.specs.declared.ProcessDay.{ProcessDay}
use Rattle.dates.specs.declared.Window.{Window}

-- a year on at the latest; for service 01 a year back at the earliest, for service 04 no early limit
abbrev pub window_from : Date → Window
window_from d = record { latest = date (d.0 + 10000); earliest01 = date (d.0 - 10000); earliest04 = date 0 }

abbrev pub opening : Option Date → Option Window
opening (Some d) = Some (window_from d)
opening None = None

-- the window of a process day, if that is a date
unfoldable pub window_of : ProcessDay → Option Window
window_of p = opening (day_of p.year p.month p.day)

abbrev pub earliest : Window → Service → Date
earliest w Autogiro = w.earliest01
earliest w Remittance = w.earliest04

unfoldable pub too_late : Window → Date → Bool
too_late w d = ltb w.latest.0 d.0

unfoldable pub too_early : Window → Service → Date → Bool
too_early w s d = ltb d.0 (earliest w s).0

-- neither too late nor too early
unfoldable pub in_time : Window → Service → Date → Bool
in_time w s d = not (too_late w d) && not (too_early w s d)
