-- Document 01, "Layouts": the codes in fields 2, 3 and 4 of every record, and the values that the other fields write.
-- Assumes nothing.
use Rattle.std.specs.Prelude.{ℕ, ◌+◌, ◌*◌, List, eqb, if◌then◌else◌}
use Rattle.fields.specs.Bytes.{part}
use Rattle.fields.specs.Numbers.{code_of}
use Rattle.rules.specs.Fields.{number_in, agreement_field, assignment_field}
use Rattle.rules.specs.declared.Kind.{Kind}
use Rattle.rules.specs.declared.Kind.TheVariants.{R10, R20, R30, R31, R40, R41, R49, R50, R88, R89, Other}

-- field 2 (3-4), field 3 (5-6), field 4 (7-8)
abbrev pub service_code : List ℕ → ℕ
service_code r = code_of (part 3 4 r)

abbrev pub type_code : List ℕ → ℕ
type_code r = code_of (part 5 6 r)

abbrev pub record_code : List ℕ → ℕ
record_code r = code_of (part 7 8 r)

-- the ten record types
unfoldable pub kind_for : ℕ → Kind
kind_for n =
    if eqb n 30 then R30 else (if eqb n 31 then R31 else (if eqb n 40 then R40 else (if eqb n 41 then R41 else (if eqb n 49 then R49 else (if eqb n 50 then R50 else
    (if eqb n 10 then R10 else (if eqb n 20 then R20 else (if eqb n 88 then R88 else (if eqb n 89 then R89 else Other)))))))))

abbrev pub kind_of : List ℕ → Kind
kind_of r = kind_for (record_code r)

abbrev pub number_of_kind : Kind → ℕ
number_of_kind R10 = 10
number_of_kind R20 = 20
number_of_kind R30 = 30
number_of_kind R31 = 31
number_of_kind R40 = 40
number_of_kind R41 = 41
number_of_kind R49 = 49
number_of_kind R50 = 50
number_of_kind R88 = 88
number_of_kind R89 = 89
number_of_kind Other = 0

-- agreement and assignment number of a record 20, together
abbrev pub key_in : List ℕ → ℕ
key_in r = number_in agreement_field r * 10_000_000 + number_in assignment_field r
