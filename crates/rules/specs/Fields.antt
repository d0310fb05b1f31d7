-- Document 01, "Layouts", and document 02, No. 2: the fields that are read as numbers, and those of a message. The rules take number, first and last position of such a field from here.
-- Assumes nothing.
use Rattle.std.specs.Prelude.{ℕ, List, Bool, eqb, if◌then◌else◌}
use Rattle.fields.specs.Bytes.{part}
use Rattle.fields.specs.Numbers.{value}
use Rattle.layout.specs.Rules.{Rule}
use Rattle.layout.specs.Rows.{Row, at}

pub record Field : Type 0 where
  pub number : ℕ
  pub from : ℕ
  pub to : ℕ

abbrev pub field : ℕ → ℕ → ℕ → Field
field n from to = record { number = n; from = from; to = to }

-- a rule on the field; the field's bytes in a record; the number that they write
abbrev pub on : Field → Rule → Row
on x u = at x.number x.from x.to u

abbrev pub bytes_in : Field → List ℕ → List ℕ
bytes_in x r = part x.from x.to r

abbrev pub number_in : Field → List ℕ → ℕ
number_in x r = value (bytes_in x r)

-- record 10
abbrev pub sender_field : Field
sender_field = field 5 9 16

-- record 20
abbrev pub agreement_field : Field
agreement_field = field 5 9 17

abbrev pub assignment_field : Field
assignment_field = field 6 18 24

-- records 30, 31, 40, 41, 49 and 50: the transaction's number
abbrev pub transaction_field : Field
transaction_field = field 5 9 15

-- record 30
abbrev pub date_field : Field
date_field = field 6 16 21

abbrev pub amount_field : Field
amount_field = field 8 33 49

-- record 49: line, column, text and filler of a message
pub record Message : Type 0 where
  pub line : Field
  pub column : Field
  pub text : Field
  pub filler : Field

-- in service 01 they stand behind the notification code, which service 04 does not have
abbrev pub message01 : Message
message01 = record { line = field 7 17 19; column = field 8 20 20; text = field 9 21 60; filler = field 10 61 80 }

abbrev pub message04 : Message
message04 = record { line = field 6 16 18; column = field 7 19 19; text = field 8 20 59; filler = field 9 60 80 }

-- by whether the service is 04; by the service's code
abbrev pub message_by : Bool → Message
message_by remittance = if remittance then message04 else message01

unfoldable pub message_of : ℕ → Message
message_of s = message_by (eqb s 4)

-- record 50
abbrev pub specified_field : Field
specified_field = field 7 41 57

-- records 88 and 89; the last date is 88's alone
abbrev pub transactions_field : Field
transactions_field = field 5 9 16

abbrev pub records_field : Field
records_field = field 6 17 24

abbrev pub sum_field : Field
sum_field = field 7 25 41

abbrev pub first_date_field : Field
first_date_field = field 8 42 47

abbrev pub last_date_field : Field
last_date_field = field 9 48 53
