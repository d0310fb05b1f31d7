-- Document 02, No. 1: a record by itself, as it is made from values. Its own rules are the rows of its table that look at it alone.
-- Assumes nothing.
use Rattle.std.specs.Prelude.{ℕ, List, [], ◌∷◌, ◌++◌, eqb, if◌then◌else◌}
use Rattle.dates.specs.Dates.{date}
use Rattle.dates.specs.Windows.{window_from}
use Rattle.layout.specs.Rows.{Row, alone, row_field}
use Rattle.rules.specs.Layouts.{a_service, a_type, table_for}
use Rattle.rules.specs.Growth.{nothing_yet}
use Rattle.rules.specs.declared.Kind.{Kind}
use Rattle.rules.specs.declared.Kind.TheVariants.{Other}

-- service and type, which agree with an assignment in a file: by itself a record's service is 01 or 04, and its type is listed for that service
abbrev pub listed_for : List ℕ → ℕ → List Row
listed_for r field = if eqb field 2 then a_service ∷ [] else (if eqb field 3 then a_type r ∷ [] else [])

-- the rows that look at the record alone; of the others only service and type are judged, by their lists
unfoldable pub own_rows : List ℕ → List Row → List Row
own_rows r [] = []
own_rows r (w ∷ ws) = if alone w then (w ∷ own_rows r ws) else (listed_for r (row_field w) ++ own_rows r ws)

-- a record type's own rules; assignment and process day do not come into them
unfoldable pub own_table : Kind → List ℕ → List Row
own_table k r = own_rows r (table_for k (window_from (date 0)) (nothing_yet Other) r)
