-- Document 01: what a field refused with 12 or 18 must have, by what the records before it leave.
-- Assumes nothing.
use Rattle.std.specs.Prelude.{ℕ, ◌+◌, eqb, leb, if◌then◌else◌}
use Rattle.dates.specs.Dates.{ddmmyy}
use Rattle.dates.specs.declared.Date.{Date}
use Rattle.figures.specs.declared.totals.Totals.{Totals}
use Rattle.services.specs.Services.{code_for}
use Rattle.rules.specs.declared.Kind.{Kind}
use Rattle.rules.specs.declared.Kind.TheVariants.{R30, R89}
use Rattle.tool_walk.specs.Seen.{last_number}
use Rattle.tool_walk.specs.declared.Seen.{Seen}
use Rattle.tool_fixed.specs.declared.Remedy.{Remedy}
use Rattle.tool_fixed.specs.declared.Remedy.TheVariants.{Value, AboveZero, NoneLeft}

-- ---- 12: the service, the type, the transaction number; a 30 has the next one
unfoldable pub next_number : ℕ → Remedy
next_number n = if eqb n 0 then AboveZero else (if leb last_number n then NoneLeft else Value (n + 1) 7)

abbrev pub number_after : Kind → ℕ → Remedy
number_after R30 n = next_number n
number_after k n = Value n 7

unfoldable pub repeated_for : Kind → ℕ → Seen → Remedy
repeated_for k field s = if eqb field 2 then Value (code_for s.service) 2 else (if eqb field 3 then Value s.code 2 else number_after k s.number.0)

-- ---- 18: the figures of an end record, which counts itself; an 89 has the file's, an 88 its assignment's
unfoldable pub figure_in : ℕ → Totals → Date → Remedy
figure_in field t last =
    if eqb field 5 then Value t.transactions.0 8
    else (if eqb field 6 then Value (t.records.0 + 1) 8
    else (if eqb field 7 then Value t.sum.0 17
    else (if eqb field 8 then Value (ddmmyy t.first) 6 else Value (ddmmyy last) 6)))

abbrev pub figure_for : Kind → ℕ → Seen → Remedy
figure_for R89 field s = figure_in field s.file s.totals.last
figure_for k field s = figure_in field s.totals.totals s.totals.last
