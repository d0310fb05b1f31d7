-- Document 01, "What may follow": the running totals. They are added up from what each record brings.
-- Assumes nothing.
use Rattle.std.specs.Prelude.{ℕ, ◌+◌, ◌-◌}
use Rattle.dates.specs.Dates.{date, earlier, later}
use Rattle.dates.specs.declared.Date.{Date}
use Rattle.figures.specs.Figures.{amount, count, plus, Fits}
use Rattle.figures.specs.declared.amounts.Amount.{Amount}
use Rattle.figures.specs.declared.counts.Count.{Count}
use Rattle.figures.specs.declared.totals.Totals.{Totals}
use Rattle.figures.specs.declared.totals.AssignmentTotals.{AssignmentTotals}

abbrev pub count_plus : Count → Count → Count
count_plus a b = count (a.0 + b.0)

abbrev pub none : Totals
none = record { assignments = count 0; transactions = count 0; records = count 0; sum = amount 0; first = date 0 }

-- two totals together: what is counted and summed is added, the first date is the earlier
infixl 60 ◌⊕◌
abbrev pub ◌⊕◌ : Totals → Totals → Totals
a ⊕ b =
    record {
      assignments = count_plus a.assignments b.assignments;
      transactions = count_plus a.transactions b.transactions;
      records = count_plus a.records b.records;
      sum = plus a.sum b.sum;
      first = earlier a.first b.first;
    }

-- what a record brings: itself; a record 20 an assignment too; a record 30 a transaction too
abbrev pub one_record : Totals
one_record = record { assignments = count 0; transactions = count 0; records = count 1; sum = amount 0; first = date 0 }

abbrev pub one_assignment : Totals
one_assignment = record { assignments = count 1; transactions = count 0; records = count 1; sum = amount 0; first = date 0 }

abbrev pub one_transaction : Amount → Date → Totals
one_transaction a d = record { assignments = count 0; transactions = count 1; records = count 1; sum = a; first = d }

-- n records more, and n fewer
abbrev pub with_records : ℕ → Totals → Totals
with_records n t = record { assignments = t.assignments; transactions = t.transactions; records = count (t.records.0 + n); sum = t.sum; first = t.first }

abbrev pub less_records : ℕ → Totals → Totals
less_records n t = record { assignments = t.assignments; transactions = t.transactions; records = count (t.records.0 - n); sum = t.sum; first = t.first }

-- an assignment's totals have the last date too
abbrev pub none_yet : AssignmentTotals
none_yet = record { totals = none; last = date 0 }

-- one assignment of these figures
abbrev pub one_of : Count → Count → Amount → Date → Date → AssignmentTotals
one_of ts rs s d l = record { totals = record { assignments = count 1; transactions = ts; records = rs; sum = s; first = d }; last = l }

infixl 60 ◌⊞◌
abbrev pub ◌⊞◌ : AssignmentTotals → AssignmentTotals → AssignmentTotals
a ⊞ b = record { totals = a.totals ⊕ b.totals; last = later a.last b.last }

-- totals that bring no date of their own
abbrev pub undated : Totals → AssignmentTotals
undated t = record { totals = t; last = date 0 }

-- a transaction of a date is the assignment's first and last so far
abbrev pub dated : Amount → Date → AssignmentTotals
dated a d = record { totals = one_transaction a d; last = d }

-- two totals that can be added without passing what the machine holds
pub record Room (a b : Totals) : Type 0 where
  pub assignments : Fits 32 (a.assignments.0 + b.assignments.0)
  pub transactions : Fits 32 (a.transactions.0 + b.transactions.0)
  pub records : Fits 32 (a.records.0 + b.records.0)
  pub sum : Fits 64 (a.sum.0 + b.sum.0)
