-- Document 01, "Layouts", records 88 and 89: an end record as it is written from the figures that stand in it.
-- Assumes nothing.
use Rattle.std.specs.Prelude.{ℕ, List, [], ◌∷◌, ◌++◌}
use Rattle.dates.specs.Dates.{date, ddmmyy}
use Rattle.dates.specs.declared.Date.{Date}
use Rattle.fields.specs.Bytes.{text}
use Rattle.fields.specs.Numbers.{written}
use Rattle.figures.specs.declared.totals.Totals.{Totals}
use Rattle.services.specs.Services.{code_for}
use Rattle.rules.specs.declared.Assignment.{Assignment}

-- NY, service, 00, record type; transactions 9-16, records 17-24, sum 25-41, first date 42-47, last date 48-53; zeros to the end
unfoldable pub end_record : ℕ → ℕ → Totals → Date → List ℕ
end_record service type t last =
    text "NY" ++
    (written 2 service ++
    (written 2 0 ++
    (written 2 type ++
    (written 8 t.transactions.0 ++
    (written 8 t.records.0 ++
    (written 17 t.sum.0 ++
    (written 6 (ddmmyy t.first) ++
    (written 6 (ddmmyy last) ++
    (written 27 0 ++
    (10 ∷ []))))))))))

-- the 88 of an assignment that counts it already
abbrev pub end88 : Assignment → List ℕ
end88 a = end_record (code_for a.service) 88 a.totals.totals a.totals.last

-- the 89 of a file whose figures count it already: no service, and no last date, so that 48-80 are zeros
abbrev pub end89 : Totals → List ℕ
end89 t = end_record 0 89 t (date 0)
