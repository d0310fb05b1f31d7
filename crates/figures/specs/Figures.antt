-- Document 01, "What the program handles" and "What may follow": amounts, counts and transaction numbers, which are never mixed.
-- Assumes nothing.
use Rattle.std.specs.Prelude.{ℕ, ◌+◌, ◌<◌, ◌^◌, Bool, leb, ltb, eqb, if◌then◌else◌}
use Rattle.limits.specs.Limits.{most_of_service04, most_of_all}
use Rattle.figures.specs.declared.amounts.Amount.{Amount}
use Rattle.figures.specs.declared.counts.Count.{Count}
use Rattle.figures.specs.declared.counts.TransactionNumber.{TransactionNumber}

abbrev pub amount : ℕ → Amount
amount n = record { 0 = n }

abbrev pub count : ℕ → Count
count n = record { 0 = n }

abbrev pub transaction_number : ℕ → TransactionNumber
transaction_number n = record { 0 = n }

-- a sum of amounts, which stays at or below its limit
abbrev pub plus : Amount → Amount → Amount
plus a b = amount (a.0 + b.0)

unfoldable pub within : Amount → Amount → Amount → Bool
within sum more limit = leb (sum.0 + more.0) limit.0

-- the limits of sums, in øre: an assignment of service 04; an assignment of service 01, a file, and each sum of sub-specifications
abbrev pub limit04 : Amount
limit04 = amount most_of_service04

abbrev pub limit_wide : Amount
limit_wide = amount most_of_all

-- the first transaction number is above 0, each next is one more; 0 stands for none before it
unfoldable pub follows : TransactionNumber → TransactionNumber → Bool
follows before n = if eqb before.0 0 then ltb 0 n.0 else eqb n.0 (before.0 + 1)

-- a number that the machine's word of w bits holds
abbrev pub Fits : ℕ → ℕ → Type 0
Fits w n = n < 2 ^ w
