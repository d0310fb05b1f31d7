-- Document 01, and document 02, No. 2: the fixed values, codes, lines and columns of each record type, for a field refused with 7.
-- Assumes nothing.
use Rattle.std.specs.Prelude.{ℕ, ◌-◌, List, [], ◌∷◌, eqb, ltb, get_or, if◌then◌else◌}
use Rattle.rules.specs.declared.Kind.{Kind}
use Rattle.rules.specs.declared.Kind.TheVariants.{R10, R20, R30, R31, R40, R41, R49, R50, R88, R89, Other}
use Rattle.tool_fixed.specs.declared.Choice.TheVariants.{Services, ClaimTypes, RemittanceTypes, SpecificationTypes, Lines, Columns}
use Rattle.tool_fixed.specs.declared.Remedy.{Remedy}
use Rattle.tool_fixed.specs.declared.Remedy.TheVariants.{Unknown, Value, Start, Zeros, OneOf}

-- each service has its own types of record 30
abbrev pub types_of : ℕ → Remedy
types_of s = if eqb s 1 then OneOf ClaimTypes else OneOf RemittanceTypes

-- fields 2 to 8 of a 49: service 04 has no notification code before the line
unfoldable pub message_fields : ℕ → List Remedy
message_fields s =
    if eqb s 4 then (OneOf Services ∷ types_of s ∷ Zeros ∷ Zeros ∷ OneOf Lines ∷ OneOf Columns ∷ Zeros ∷ [])
    else (OneOf Services ∷ types_of s ∷ Zeros ∷ Zeros ∷ Value 3 1 ∷ OneOf Lines ∷ OneOf Columns ∷ [])

-- fields 2 to 8 of each record type; `s` is the record's own service
abbrev pub fixed_fields : Kind → ℕ → List Remedy
fixed_fields R10 s = Value 0 2 ∷ Value 0 2 ∷ Zeros ∷ Zeros ∷ Zeros ∷ Value 8080 8 ∷ Zeros ∷ []
fixed_fields R20 s = OneOf Services ∷ Value 0 2 ∷ Zeros ∷ Zeros ∷ Zeros ∷ Zeros ∷ Zeros ∷ []
fixed_fields R30 s = OneOf Services ∷ types_of s ∷ Zeros ∷ Zeros ∷ Zeros ∷ Zeros ∷ Zeros ∷ []
fixed_fields R31 s = OneOf Services ∷ types_of s ∷ Zeros ∷ Zeros ∷ Zeros ∷ Zeros ∷ Zeros ∷ []
fixed_fields R40 s = OneOf Services ∷ types_of s ∷ Zeros ∷ Zeros ∷ Zeros ∷ Zeros ∷ Zeros ∷ []
fixed_fields R41 s = OneOf Services ∷ types_of s ∷ Zeros ∷ Zeros ∷ Zeros ∷ Zeros ∷ Zeros ∷ []
fixed_fields R49 s = message_fields s
fixed_fields R50 s = OneOf Services ∷ OneOf SpecificationTypes ∷ Zeros ∷ Zeros ∷ Zeros ∷ Zeros ∷ Zeros ∷ []
fixed_fields R88 s = Value 0 2 ∷ Value 0 2 ∷ Zeros ∷ Zeros ∷ Zeros ∷ Zeros ∷ Zeros ∷ []
fixed_fields R89 s = Value 0 2 ∷ Value 0 2 ∷ Zeros ∷ Zeros ∷ Zeros ∷ Zeros ∷ Zeros ∷ []
fixed_fields Other s = Unknown ∷ Unknown ∷ Unknown ∷ Unknown ∷ Unknown ∷ Unknown ∷ Unknown ∷ []

-- field 1 is NY, and what the table does not have is zeros
unfoldable pub fixed_for : Kind → ℕ → ℕ → Remedy
fixed_for k field s =
    if eqb field 1 then Start
    else (if ltb field 2 then Zeros else (if ltb 8 field then Zeros else get_or (fixed_fields k s) (field - 2) Unknown))
