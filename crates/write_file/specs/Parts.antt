-- What an end record has behind fields 1 to 4: its figures, the zeros after them and the line feed.
-- Assumes nothing.
use Rattle.std.specs.Prelude.{ℕ, List, [], ◌∷◌, ◌++◌}
use Rattle.dates.specs.Dates.{ddmmyy}
use Rattle.dates.specs.declared.Date.{Date}
use Rattle.fields.specs.Numbers.{written}
use Rattle.figures.specs.declared.totals.Totals.{Totals}

unfoldable pub figure_bytes : Totals → Date → List ℕ
figure_bytes t last =
    written 8 t.transactions.0 ++
    (written 8 t.records.0 ++
    (written 17 t.sum.0 ++
    (written 6 (ddmmyy t.first) ++
    (written 6 (ddmmyy last) ++
    (written 27 0 ++
    (10 ∷ []))))))
