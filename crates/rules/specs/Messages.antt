-- Document 01, "What may follow", and document 02, No. 2, for both services: the 42 places of a message are a set, of which each is taken at most once. Document 02, No. 3: a record 49 without a place.
-- Assumes nothing.
use Rattle.std.specs.Prelude.{ℕ, ◌+◌, ◌*◌, ◌/◌, ◌%◌, ◌^◌, List, Bool, ◌&&◌, eqb, ltb, if◌then◌else◌}
use Rattle.std.specs.Int.Bits.{bit_or}
use Rattle.std.specs.Int.Count.{ones}
use Rattle.rules.specs.Codes.{service_code}
use Rattle.rules.specs.Fields.{Message, number_in, message_of}
use Rattle.rules.specs.declared.Places.{Places}

-- the set as a mask, with a bit for each place
unfoldable pub taken : ℕ → ℕ → Bool
taken mask p = eqb (mask / 2 ^ p % 2) 1

unfoldable pub with_place : ℕ → ℕ → ℕ
with_place mask p = bit_or mask (2 ^ p)

-- the place of a line and a column; line 000 or column 0 is none
abbrev pub place_of : ℕ → ℕ → ℕ
place_of line column = line * 2 + column

abbrev pub is_place : ℕ → ℕ → Bool
is_place line column = ltb 0 line && ltb 0 column

abbrev pub places : ℕ → ℕ → Places
places mask unplaced = record { mask = mask; unplaced = unplaced }

-- before the first 49 of a transaction
abbrev pub no_places : Places
no_places = places 0 0

-- the place was taken before; what takes no place cannot clash
unfoldable pub clashes : Places → ℕ → ℕ → Bool
clashes ps line column = is_place line column && taken ps.mask (place_of line column)

-- after a 49 on this line and in this column: its place is taken, or one record more has none
unfoldable pub with49 : Places → ℕ → ℕ → Places
with49 ps line column =
    if is_place line column then places (with_place ps.mask (place_of line column)) ps.unplaced else places ps.mask (ps.unplaced + 1)

-- the number of places taken plus the number of unplaced records
unfoldable pub used : Places → ℕ
used ps = ones ps.mask + ps.unplaced

-- the same of a record, whose line and column stand where a message has them
abbrev pub place_at : Message → List ℕ → ℕ
place_at m r = place_of (number_in m.line r) (number_in m.column r)

abbrev pub has_place_at : Message → List ℕ → Bool
has_place_at m r = is_place (number_in m.line r) (number_in m.column r)

abbrev pub with_at : Message → Places → List ℕ → Places
with_at m ps r = with49 ps (number_in m.line r) (number_in m.column r)

-- where the record's service has them
abbrev pub place_in : List ℕ → ℕ
place_in r = place_at (message_of (service_code r)) r

abbrev pub has_place : List ℕ → Bool
has_place r = has_place_at (message_of (service_code r)) r

abbrev pub clashes_in : Places → List ℕ → Bool
clashes_in ps r = let m = message_of (service_code r) in clashes ps (number_in m.line r) (number_in m.column r)

abbrev pub with_record : Places → List ℕ → Places
with_record ps r = with_at (message_of (service_code r)) ps r
