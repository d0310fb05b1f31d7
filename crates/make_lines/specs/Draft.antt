-- What lines of values make: a record for each line that bears one, up to the first that is refused.
-- Assumes nothing.
use Rattle.std.specs.Prelude.{ℕ, ◌+◌, ◌-◌, ◌≡◌, List, [], ◌∷◌, ◌++◌, Bool, true, false, ◌&&◌, eqb, leb, length, get_or, drop, if◌then◌else◌, Result, Ok, Err}
use Rattle.limits.specs.Limits.{record_bytes, most_records}
use Rattle.fields.specs.Bytes.{same, text}
use Rattle.fields.specs.Numbers.{value}
use Rattle.layout.specs.Findings.{Finding, fault, or_else, sound}
use Rattle.layout.specs.declared.Fault.{Fault}
use Rattle.layout.specs.declared.Reason.{Reason}
use Rattle.rules.specs.Fields.{message_of}
use Rattle.rules.specs.Refusals.{refusal}
use Rattle.rules.specs.declared.Kind.{Kind}
use Rattle.rules.specs.declared.Refusal.{Refusal}
use Rattle.rules.specs.declared.Kind.TheVariants.{R10, R20, R30, R31, R40, R41, R49, R50, R88, R89, Other}
use Rattle.operations.specs.Making.{Making, Put, made10, made20, made30, made31, made40, made41, made49, made50, record_from, on_sound, make_of, lent_record}
use Rattle.make_lines.specs.Lines.{lines_of, values_of, passed_over, bearing, is_numeral}
use Rattle.make_lines.specs.declared.slots.Slot.{Slot}
use Rattle.make_lines.specs.declared.slots.Slot.TheVariants.{Numeral, Words}
use Rattle.layout.specs.declared.Reason.TheVariants.{BrokenLength, TooManyRecords, NotFixed, WrongForm}

-- what making a draft answers: how many records it has, or a refusal that bears the line in the place of a record
abbrev pub Drafting : Type 0
Drafting = Result ℕ Refusal

-- what a line adds: none or one record; or the reason and the field of its refusal
abbrev pub Taken : Type 0
Taken = Result ℕ Fault

-- the record type that a line begins with
unfoldable pub type_given : List ℕ → Kind
type_given s =
    if same s (text "10") then R10 else (if same s (text "20") then R20 else (if same s (text "30") then R30 else (if same s (text "31") then R31 else
    (if same s (text "40") then R40 else (if same s (text "41") then R41 else (if same s (text "49") then R49 else (if same s (text "50") then R50 else Other)))))))

-- the field of a value
abbrev pub field_of : Slot → ℕ
field_of (Numeral k) = k
field_of (Words k) = k

-- the values behind the record type, in their order; a message has its fields by the service's code
abbrev pub slots_of : Kind → ℕ → List Slot
slots_of R10 s = Numeral 5 ∷ Numeral 6 ∷ []
slots_of R20 s = Numeral 2 ∷ Numeral 5 ∷ Numeral 6 ∷ Numeral 7 ∷ []
slots_of R30 s = Numeral 2 ∷ Numeral 3 ∷ Numeral 5 ∷ Numeral 6 ∷ Words 7 ∷ Numeral 8 ∷ Words 9 ∷ []
slots_of R31 s = Numeral 2 ∷ Numeral 3 ∷ Numeral 5 ∷ Words 6 ∷ Words 7 ∷ Words 8 ∷ []
slots_of R40 s = Numeral 2 ∷ Numeral 3 ∷ Numeral 5 ∷ Words 6 ∷ Words 7 ∷ Words 8 ∷ Words 9 ∷ []
slots_of R41 s = Numeral 2 ∷ Numeral 3 ∷ Numeral 5 ∷ Words 6 ∷ Words 7 ∷ Words 8 ∷ []
slots_of R49 s = Numeral 2 ∷ Numeral 3 ∷ Numeral 5 ∷ Numeral (message_of s).line.number ∷ Numeral (message_of s).column.number ∷ Words (message_of s).text.number ∷ []
slots_of R50 s = Numeral 2 ∷ Numeral 3 ∷ Numeral 5 ∷ Words 6 ∷ Numeral 7 ∷ []
slots_of R88 s = []
slots_of R89 s = []
slots_of Other s = []

-- nothing but empty values, as a spreadsheet fills up its rows
unfoldable pub all_empty : List (List ℕ) → Bool
all_empty [] = true
all_empty ([] ∷ vs) = all_empty vs
all_empty ((x ∷ s) ∷ vs) = false

-- too few values: 8 at the field of the first that is missing; too many: 8, of no field
unfoldable pub counted : List Slot → List (List ℕ) → Finding
counted [] vs = if all_empty vs then sound else Err (fault WrongForm 0)
counted (s ∷ ss) [] = Err (fault WrongForm (field_of s))
counted (s ∷ ss) (v ∷ vs) = counted ss vs

-- a number has to be one
abbrev pub slot_found : Slot → List ℕ → Finding
slot_found (Numeral k) v = if is_numeral v then sound else Err (fault WrongForm k)
slot_found (Words k) v = sound

-- 8 at the first number that is none
unfoldable pub numerals : List Slot → List (List ℕ) → Finding
numerals [] vs = sound
numerals (s ∷ ss) vs = or_else (slot_found s (get_or vs 0 [])) (numerals ss (drop 1 vs))

-- the value in place i, as a text and as a number
abbrev pub text_at : ℕ → List (List ℕ) → List ℕ
text_at i vs = get_or vs i []

abbrev pub number_at : ℕ → List (List ℕ) → ℕ
number_at i vs = value (text_at i vs)

-- the service that a line gives, as far as its fields go by it: 04 where the first value writes it, else as service 01
unfoldable pub service_given : List (List ℕ) → ℕ
service_given vs = if eqb (number_at 0 vs) 4 && is_numeral (text_at 0 vs) then 4 else 1

-- what the values of a line put into its record
abbrev pub puts_of : Kind → List (List ℕ) → List Put
puts_of R10 vs = made10 (number_at 0 vs) (number_at 1 vs)
puts_of R20 vs = made20 (number_at 0 vs) (number_at 1 vs) (number_at 2 vs) (number_at 3 vs)
puts_of R30 vs = made30 (number_at 0 vs) (number_at 1 vs) (number_at 2 vs) (number_at 3 vs) (text_at 4 vs) (number_at 5 vs) (text_at 6 vs)
puts_of R31 vs = made31 (number_at 0 vs) (number_at 1 vs) (number_at 2 vs) (text_at 3 vs) (text_at 4 vs) (text_at 5 vs)
puts_of R40 vs = made40 (number_at 0 vs) (number_at 1 vs) (number_at 2 vs) (text_at 3 vs) (text_at 4 vs) (text_at 5 vs) (text_at 6 vs)
puts_of R41 vs = made41 (number_at 0 vs) (number_at 1 vs) (number_at 2 vs) (text_at 3 vs) (text_at 4 vs) (text_at 5 vs)
puts_of R49 vs = made49 (number_at 0 vs) (number_at 1 vs) (number_at 2 vs) (number_at 3 vs) (number_at 4 vs) (text_at 5 vs)
puts_of R50 vs = made50 (number_at 0 vs) (number_at 1 vs) (number_at 2 vs) (text_at 3 vs) (number_at 4 vs)
puts_of R88 vs = []
puts_of R89 vs = []
puts_of Other vs = []

-- how many values there are, then numbers
abbrev pub slots_found : Kind → List (List ℕ) → Finding
slots_found k vs = or_else (counted (slots_of k (service_given vs)) vs) (numerals (slots_of k (service_given vs)) vs)

-- the record types that lines have: the end records are made by closing
abbrev pub is_given : Kind → Bool
is_given R10 = true
is_given R20 = true
is_given R30 = true
is_given R31 = true
is_given R40 = true
is_given R41 = true
is_given R49 = true
is_given R50 = true
is_given R88 = false
is_given R89 = false
is_given Other = false

-- what is found before a record is made: another record type is 7
unfoldable pub fault_in : Kind → List (List ℕ) → Finding
fault_in k vs = if is_given k then slots_found k vs else Err (fault NotFixed 4)

-- of a line with this record type and these values
abbrev pub kind_making : Kind → List (List ℕ) → ℕ → Making
kind_making k vs room = on_sound (fault_in k vs) (make_of k (puts_of k vs) room)

abbrev pub kind_in : List ℕ → Kind
kind_in l = type_given (get_or (values_of l) 0 [])

-- the values behind the record type
abbrev pub given_in : List ℕ → List (List ℕ)
given_in l = drop 1 (values_of l)

abbrev pub line_making : List ℕ → ℕ → Making
line_making l room = kind_making (kind_in l) (given_in l) room

abbrev pub line_record : List ℕ → List ℕ
line_record l = record_from (puts_of (kind_in l) (given_in l))

-- the answer for a line, and the whole buffer afterwards
pub record LinePromise (l out : List ℕ) (answer : Making) (after : List ℕ) : Type 0 where
  pub answers : answer ≡ line_making l (length out)
  pub leaves : after ≡ lent_record (line_making l (length out)) (line_record l) out

-- a refusal of the values bears the line in the place of a record
abbrev pub not_drafted : Reason → ℕ → ℕ → Drafting
not_drafted n line k = Err (refusal n 0 line k)

abbrev pub on_made : Making → ℕ → Drafting → Drafting
on_made (Ok u) i x = x
on_made (Err x) i rest = not_drafted x.reason i x.field

-- what a line adds: nothing where it is passed over, else a record or a refusal
abbrev pub taken_by : Making → Taken
taken_by (Ok u) = Ok 1
taken_by (Err x) = Err (fault x.reason x.field)

unfoldable pub line_taken : List ℕ → ℕ → Taken
line_taken l room = if passed_over l then Ok 0 else taken_by (line_making l room)

-- the buffer afterwards
unfoldable pub taken_bytes : List ℕ → List ℕ → List ℕ
taken_bytes l out = if passed_over l then out else lent_record (line_making l (length out)) (line_record l) out

-- the lines in turn, after i lines and n records, with this room left
unfoldable pub draft_from : ℕ → ℕ → ℕ → List (List ℕ) → Drafting
draft_from room i n [] = Ok n
draft_from room i n (l ∷ ls) =
    if passed_over l then draft_from room (i + 1) n ls
    else on_made (line_making l room) (i + 1) (draft_from (room - record_bytes) (i + 1) (n + 1) ls)

abbrev pub records_on : Making → List ℕ → List ℕ → List ℕ
records_on (Ok u) r rest = r ++ rest
records_on (Err x) r rest = []

-- their records, up to the first line that is refused
unfoldable pub records_from : ℕ → List (List ℕ) → List ℕ
records_from room [] = []
records_from room (l ∷ ls) =
    if passed_over l then records_from room ls
    else records_on (line_making l room) (line_record l) (records_from (room - record_bytes) ls)

-- the answer for the lines in turn, and the whole output afterwards
pub record LinesPromise (v out : List ℕ) (answer : Drafting) (after : List ℕ) : Type 0 where
  pub answers : answer ≡ draft_from (length out) 0 0 (lines_of v)
  pub leaves : after ≡ records_from (length out) (lines_of v) ++ drop (length (records_from (length out) (lines_of v))) out

-- a draft has at least an 88 and an 89 less than its file
abbrev pub most_drafted : ℕ
most_drafted = most_records - 2

-- how many records the values have: none is 2, more than any file takes is 3
unfoldable pub enough : ℕ → Finding
enough n = if eqb n 0 then Err (fault BrokenLength 0) else (if leb n most_drafted then sound else Err (fault TooManyRecords 0))

abbrev pub on_enough : Finding → Drafting → Drafting
on_enough (Ok u) x = x
on_enough (Err e) x = not_drafted e.reason 0 e.field

abbrev pub bytes_on : Finding → List ℕ → List ℕ
bytes_on (Ok u) x = x
bytes_on (Err e) x = []

-- what making a draft from values answers, into an output of this length
unfoldable pub draft_of : List ℕ → ℕ → Drafting
draft_of v room = on_enough (enough (bearing (lines_of v))) (draft_from room 0 0 (lines_of v))

-- the records that it writes
unfoldable pub draft_bytes : List ℕ → ℕ → List ℕ
draft_bytes v room = bytes_on (enough (bearing (lines_of v))) (records_from room (lines_of v))

-- the answer, and the whole output afterwards: what was made before a refused line lies over its start
pub record DraftPromise (v out : List ℕ) (answer : Drafting) (after : List ℕ) : Type 0 where
  pub answers : answer ≡ draft_of v (length out)
  pub leaves : after ≡ draft_bytes v (length out) ++ drop (length (draft_bytes v (length out))) out
