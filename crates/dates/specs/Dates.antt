-- Document 01, "Bytes and days": what is a date, the number that stands for it, and which of two is the earlier.
-- Assumes nothing.
use Rattle.std.specs.Prelude.{ℕ, ◌+◌, ◌*◌, ◌/◌, ◌%◌, Bool, ◌&&◌, ◌||◌, leb, ltb, eqb, if◌then◌else◌, Option, Some, None}
use Rattle.dates.specs.declared.Date.{Date}

abbrev pub date : ℕ → Date
date n = record { 0 = n }

-- leap years are those divisible by 4
unfoldable pub days_in : ℕ → ℕ → ℕ
days_in year month =
    if eqb month 2 then (if eqb (year % 4) 0 then 29 else 28)
    else (if eqb month 4 || eqb month 6 || eqb month 9 || eqb month 11 then 30 else 31)

-- in the years 2000 to 2099
unfoldable pub is_date : ℕ → ℕ → ℕ → Bool
is_date year month day =
    leb 2000 year && leb year 2099 && (leb 1 month && leb month 12) && (leb 1 day && leb day (days_in year month))

abbrev pub date_number : ℕ → ℕ → ℕ → ℕ
date_number year month day = year * 10000 + month * 100 + day

-- the date of a year, a month and a day, if it is one
unfoldable pub day_of : ℕ → ℕ → ℕ → Option Date
day_of year month day = if is_date year month day then Some (date (date_number year month day)) else None

-- the date that a number reads as, its digits being DDMMYY; every two-digit year means 2000 to 2099
unfoldable pub read_day : ℕ → Option Date
read_day n = day_of (2000 + n % 100) (n / 100 % 100) (n / 10000)

-- the number whose digits are a date's DDMMYY
unfoldable pub ddmmyy : Date → ℕ
ddmmyy d = d.0 % 100 * 10000 + d.0 / 100 % 100 * 100 + d.0 / 10000 % 100

-- 0 stands for no date yet: of two dates the earlier, of one and none the one
unfoldable pub earlier : Date → Date → Date
earlier a b = if eqb a.0 0 then b else (if eqb b.0 0 then a else (if ltb b.0 a.0 then b else a))

unfoldable pub later : Date → Date → Date
later a b = if ltb a.0 b.0 then b else a
