-- Field 6: no digits and no date end the stage; a date leaves the row of its time, and the date read is the one brought.
-- Assumes nothing.
use Rattle.std.proofs.Common.{arith, true, ◌≡◌}
use Rattle.dates.specs.Dates.{read_day}
use Rattle.fields.specs.Bytes.{every, is_digit, part}
use Rattle.fields.specs.Numbers.{number_of, value}
use Rattle.layout.specs.Rows.{first_fault}
use Rattle.record_30_values.proofs.Days.{date_read}
use Rattle.record_30_values.proofs.date.Goals.{After-day_in}
use Rattle.record_30_values.proofs.date.Goals as goal

-- past the digits: they are, and the day that they read as is told
read : (p : After-day_in) → let s = part 16 21 p.args.r.now in (every is_digit s ≡ true) × (read_day (value s) ≡ p.day_in.result)
read p = date_read p.args.r.now _ _ p.day_in.result p.told-r p.pairs_at.ensures p.in-Some.is p.day_in.ensures

pub returns-in_default : goal.returns-in_default
unfolding first_fault number_of
returns-in_default c = λ f ks. grind arith

pub returns-in_err-date : goal.returns-in_err-date
unfolding first_fault
returns-in_err-date c = λ f ks. let day = read (goal.at.returns-in_err-date c).After-day_in in grind (arith, day.0, day.1)

pub returns-in_err-demand : goal.returns-in_err-demand
unfolding first_fault
returns-in_err-demand c = λ f ks. let day = read (goal.at.returns-in_err-demand c).After-day_in in grind (arith, day.0, day.1)

pub returns : goal.returns
unfolding first_fault
returns c = λ f ks. let day = read (goal.at.returns c).After-day_in in grind (arith, day.0, day.1)
