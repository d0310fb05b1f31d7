-- Document 02, No. 1, and No. 2 for 41 and 49: a record made from values. Numbers stand right with zeros, texts left with blanks, KIDs and field 7 of a 30 to the right.
-- Assumes nothing.
use Rattle.std.specs.Prelude.{ℕ, ◌+◌, ◌-◌, ◌^◌, List, [], ◌∷◌, ◌++◌, Bool, true, leb, ltb, eqb, length, drop, if◌then◌else◌, Result, Ok, Err}
use Prim.Native.String.{String}
use Rattle.limits.specs.Limits.{record_bytes}
use Rattle.fields.specs.Bytes.{text}
use Rattle.fields.specs.Numbers.{written}
use Rattle.field_texts.specs.Texts.{to_left, to_right}
use Rattle.figures.specs.Totals.{none}
use Rattle.layout.specs.Findings.{Finding, fault, sound}
use Rattle.layout.specs.Rows.{first_fault}
use Rattle.rules.specs.Alone.{own_table}
use Rattle.rules.specs.Codes.{number_of_kind}
use Rattle.rules.specs.Fields.{Message, message_of}
use Rattle.rules.specs.Refusals.{refusal}
use Rattle.rules.specs.declared.Kind.{Kind}
use Rattle.rules.specs.declared.Kind.TheVariants.{R10, R20, R30, R31, R40, R41, R49, R50}
use Rattle.rules.specs.declared.Refusal.{Refusal}
use Rattle.layout.specs.declared.Reason.{Reason}
use Rattle.layout.specs.declared.Reason.TheVariants.{NoRoom, TooLong}

-- what making a record answers: it was made, or a refusal
abbrev pub Making : Type 0
Making = Result (Unit {0}) Refusal

abbrev pub recorded : Making
recorded = Ok tt

-- what is put into a record: the field, whether the value fits into it, and the bytes that it becomes
pub record Put : Type 0 where
  pub field : ℕ
  pub fits : Bool
  pub bytes : List ℕ

-- a value in field k of w places: a number; a text, left or to the right
abbrev pub number : ℕ → ℕ → ℕ → Put
number k w n = record { field = k; fits = ltb n (10 ^ w); bytes = written w n }

abbrev pub left : ℕ → ℕ → List ℕ → Put
left k w t = record { field = k; fits = leb (length t) w; bytes = to_left w t }

abbrev pub right : ℕ → ℕ → List ℕ → Put
right k w t = record { field = k; fits = leb (length t) w; bytes = to_right w t }

-- what is not given: a fixed text, zeros, the record type
abbrev pub fixed : String → Put
fixed t = record { field = 0; fits = true; bytes = text t }

abbrev pub zeros : ℕ → Put
zeros w = record { field = 0; fits = true; bytes = written w 0 }

abbrev pub record_type : Kind → Put
record_type k = record { field = 4; fits = true; bytes = written 2 (number_of_kind k) }

-- fields 1 to 4
abbrev pub head : Kind → ℕ → ℕ → List Put
head k service type = fixed "NY" ∷ number 2 2 service ∷ number 3 2 type ∷ record_type k ∷ []

abbrev pub made10 : ℕ → ℕ → List Put
made10 sender n = head R10 0 0 ++ (number 5 8 sender ∷ number 6 7 n ∷ fixed "00008080" ∷ zeros 49 ∷ [])

abbrev pub made20 : ℕ → ℕ → ℕ → ℕ → List Put
made20 service agreement assignment account = head R20 service 0 ++ (number 5 9 agreement ∷ number 6 7 assignment ∷ number 7 11 account ∷ zeros 45 ∷ [])

abbrev pub made30 : ℕ → ℕ → ℕ → ℕ → List ℕ → ℕ → List ℕ → List Put
made30 service type n date party amount kid =
    head R30 service type ++ (number 5 7 n ∷ number 6 6 date ∷ right 7 11 party ∷ number 8 17 amount ∷ right 9 25 kid ∷ zeros 6 ∷ [])

abbrev pub made31 : ℕ → ℕ → ℕ → List ℕ → List ℕ → List ℕ → List Put
made31 service type n text6 text7 text8 = head R31 service type ++ (number 5 7 n ∷ left 6 10 text6 ∷ left 7 25 text7 ∷ left 8 25 text8 ∷ zeros 5 ∷ [])

abbrev pub made40 : ℕ → ℕ → ℕ → List ℕ → List ℕ → List ℕ → List ℕ → List Put
made40 service type n name postal filler area =
    head R40 service type ++ (number 5 7 n ∷ left 6 30 name ∷ left 7 4 postal ∷ left 8 3 filler ∷ left 9 25 area ∷ zeros 3 ∷ [])

abbrev pub made41 : ℕ → ℕ → ℕ → List ℕ → List ℕ → List ℕ → List Put
made41 service type n address1 address2 country =
    head R41 service type ++ (number 5 7 n ∷ left 6 30 address1 ∷ left 7 30 address2 ∷ left 8 3 country ∷ zeros 2 ∷ [])

-- the notification code of a 49, which service 04 does not have
abbrev pub code_by : Bool → List Put
code_by remittance = if remittance then [] else (fixed "3" ∷ [])

unfoldable pub notification : ℕ → List Put
notification service = code_by (eqb service 4)

-- a message from its line on, with the fields that its service has
abbrev pub message : Message → ℕ → ℕ → List ℕ → List Put
message m line column words =
    number m.line.number 3 line ∷ number m.column.number 1 column ∷ left m.text.number 40 words ∷ zeros (m.filler.to + 1 - m.filler.from) ∷ []

abbrev pub made49 : ℕ → ℕ → ℕ → ℕ → ℕ → List ℕ → List Put
made49 service type n line column words =
    head R49 service type ++ (number 5 7 n ∷ []) ++ notification service ++ message (message_of service) line column words

abbrev pub made50 : ℕ → ℕ → ℕ → List ℕ → ℕ → List Put
made50 service type n kid amount = head R50 service type ++ (number 5 7 n ∷ right 6 25 kid ∷ number 7 17 amount ∷ zeros 23 ∷ [])

-- the record: one value behind the other, and a line feed
unfoldable pub record_from : List Put → List ℕ
record_from [] = 10 ∷ []
record_from (p ∷ ps) = p.bytes ++ record_from ps

-- 22 at the first value that is too long for its field
unfoldable pub too_long : List Put → Finding
too_long [] = sound
too_long (p ∷ ps) = if p.fits then too_long ps else Err (fault TooLong p.field)

-- a refusal names no record
abbrev pub not_made : Reason → ℕ → Making
not_made n k = Err (refusal n 0 0 k)

abbrev pub on_sound : Finding → Making → Making
on_sound (Ok u) x = x
on_sound (Err e) x = not_made e.reason e.field

-- a record that is put together, for a buffer of this length: its own rules, then 19
unfoldable pub judged : Kind → List ℕ → ℕ → Making
judged k r room = on_sound (first_fault none [] r (own_table k r)) (if leb record_bytes room then recorded else not_made NoRoom 0)

-- what making a record answers: 22 is looked for first
unfoldable pub make_of : Kind → List Put → ℕ → Making
make_of k ps room = on_sound (too_long ps) (judged k (record_from ps) room)

-- the buffer afterwards: the record lies over its start where it is made; else all stays
unfoldable pub lent_record : Making → List ℕ → List ℕ → List ℕ
lent_record (Ok u) r before = r ++ drop record_bytes before
lent_record (Err x) r before = before

unfoldable pub made_bytes : Kind → List Put → List ℕ → List ℕ
made_bytes k ps out = lent_record (make_of k ps (length out)) (record_from ps) out
