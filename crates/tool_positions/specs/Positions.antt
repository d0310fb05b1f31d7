-- Document 01, "Layouts", and document 02, No. 2: the last position of each field of a record, with 0 before the first.
-- Assumes nothing.
use Rattle.std.specs.Prelude.{ℕ, ◌+◌, ◌-◌, List, [], ◌∷◌, Option, Some, None, eqb, ltb, get_or, if◌then◌else◌}
use Rattle.rules.specs.declared.Kind.{Kind}
use Rattle.rules.specs.declared.Kind.TheVariants.{R10, R20, R30, R31, R40, R41, R49, R50, R88, R89, Other}
use Rattle.tool_positions.specs.declared.Positions.{Positions}

-- a 49 by its service: in service 04 the line stands where service 01 has the notification code
unfoldable pub message_ends : ℕ → List ℕ
message_ends s =
    if eqb s 4 then (0 ∷ 2 ∷ 4 ∷ 6 ∷ 8 ∷ 15 ∷ 18 ∷ 19 ∷ 59 ∷ 80 ∷ 80 ∷ [])
    else (0 ∷ 2 ∷ 4 ∷ 6 ∷ 8 ∷ 15 ∷ 16 ∷ 19 ∷ 20 ∷ 60 ∷ 80 ∷ [])

-- by the record type and the record's own service
abbrev pub ends_of : Kind → ℕ → List ℕ
ends_of R10 s = 0 ∷ 2 ∷ 4 ∷ 6 ∷ 8 ∷ 16 ∷ 23 ∷ 31 ∷ 80 ∷ 80 ∷ 80 ∷ []
ends_of R20 s = 0 ∷ 2 ∷ 4 ∷ 6 ∷ 8 ∷ 17 ∷ 24 ∷ 35 ∷ 80 ∷ 80 ∷ 80 ∷ []
ends_of R30 s = 0 ∷ 2 ∷ 4 ∷ 6 ∷ 8 ∷ 15 ∷ 21 ∷ 32 ∷ 49 ∷ 74 ∷ 80 ∷ []
ends_of R31 s = 0 ∷ 2 ∷ 4 ∷ 6 ∷ 8 ∷ 15 ∷ 25 ∷ 50 ∷ 75 ∷ 80 ∷ 80 ∷ []
ends_of R40 s = 0 ∷ 2 ∷ 4 ∷ 6 ∷ 8 ∷ 15 ∷ 45 ∷ 49 ∷ 52 ∷ 77 ∷ 80 ∷ []
ends_of R41 s = 0 ∷ 2 ∷ 4 ∷ 6 ∷ 8 ∷ 15 ∷ 45 ∷ 75 ∷ 78 ∷ 80 ∷ 80 ∷ []
ends_of R49 s = message_ends s
ends_of R50 s = 0 ∷ 2 ∷ 4 ∷ 6 ∷ 8 ∷ 15 ∷ 40 ∷ 57 ∷ 80 ∷ 80 ∷ 80 ∷ []
ends_of R88 s = 0 ∷ 2 ∷ 4 ∷ 6 ∷ 8 ∷ 16 ∷ 24 ∷ 41 ∷ 47 ∷ 53 ∷ 80 ∷ []
ends_of R89 s = 0 ∷ 2 ∷ 4 ∷ 6 ∷ 8 ∷ 16 ∷ 24 ∷ 41 ∷ 47 ∷ 80 ∷ 80 ∷ []
ends_of Other s = 0 ∷ 2 ∷ 4 ∷ 6 ∷ 8 ∷ 80 ∷ 80 ∷ 80 ∷ 80 ∷ 80 ∷ 80 ∷ []

-- a field begins after the one before it; there are at most ten
unfoldable pub positions_in : List ℕ → ℕ → Option Positions
positions_in ends field =
    if ltb field 1 then None
    else (if ltb 10 field then None else Some (record { from = get_or ends (field - 1) 0 + 1; to = get_or ends field 0 }))

abbrev pub positions_of : Kind → ℕ → ℕ → Option Positions
positions_of k s field = positions_in (ends_of k s) field
