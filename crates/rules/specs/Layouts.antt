-- Document 01, "Layouts" and "Refusal numbers", and document 02, No. 2 and No. 3, for 41 and 49: a table for each record type, a row for each refusal, in the stated order.
-- Assumes nothing.
use Rattle.std.specs.Prelude.{ℕ, ◌+◌, List, [], ◌∷◌, ◌++◌, Bool, not, eqb, leb, if◌then◌else◌}
use Rattle.limits.specs.Limits.{most_in_message}
use Rattle.fields.specs.Bytes.{same}
use Rattle.dates.specs.Dates.{ddmmyy}
use Rattle.dates.specs.Windows.{in_time}
use Rattle.dates.specs.declared.Window.{Window}
use Rattle.figures.specs.Figures.{amount, transaction_number, within, limit_wide, follows}
use Rattle.figures.specs.Groups.{gives}
use Rattle.figures.specs.declared.totals.Totals.{Totals}
use Rattle.layout.specs.Rules.{Rule, rule, digits, zeros, textual, fixed, listed, right_account}
use Rattle.layout.specs.Rows.{Row, at, must, file, takes, fresh, room, figure, Figure, transactions, records, sum, first_date}
use Rattle.services.specs.Services.{code_for}
use Rattle.rules.specs.Codes.{service_code, type_code, kind_of, key_in}
use Rattle.rules.specs.Fields.{Field, on, number_in, sender_field, agreement_field, assignment_field, transaction_field, date_field, amount_field, Message, message_of, specified_field, transactions_field, records_field, sum_field, first_date_field, last_date_field}
use Rattle.rules.specs.Order.{may_follow}
use Rattle.rules.specs.Messages.{clashes, with49, used}
use Rattle.rules.specs.Payments.{type_listed, a_date, date_in, amount_in, party, party_account, amount_allowed, limit_for, kid_of, kid_for, name, postal, filler, country, line, column}
use Rattle.rules.specs.declared.Kind.{Kind}
use Rattle.rules.specs.declared.Kind.TheVariants.{R10, R20, R30, R31, R40, R41, R49, R50, R88, R89, Other}
use Rattle.rules.specs.declared.Mode.{Mode}
use Rattle.rules.specs.declared.Places.{Places}
use Rattle.rules.specs.declared.Assignment.{Assignment}
use Rattle.layout.specs.declared.Reason.TheVariants.{NotAddedUp, NoLineFeed, OutOfPlace, OutOfTime, Disagrees, PastLimit, KeySeen, TooManyAssignments, PlaceTaken, WrongFigure, MessageFull}

-- byte 81 is a line feed, else 4
abbrev pub line_feed : Rule
line_feed = rule (λ s. same s (10 ∷ [])) NoLineFeed

-- the sub-specifications before this record give their amount, else 14
abbrev pub group_gives : Assignment → Row
group_gives a = must (gives a.group a.due) NotAddedUp 0

-- fields 1 to 3 of 10 and 89, which stand outside assignments
abbrev pub outside : List Row
outside =
    at 1 1 2 (fixed "NY") ∷
    at 2 3 4 (fixed "00") ∷
    at 3 5 6 (fixed "00") ∷
    []

-- fields 1 and 2 within an assignment
abbrev pub belongs : Assignment → List ℕ → List Row
belongs a r =
    at 1 1 2 (fixed "NY") ∷
    must (eqb (service_code r) (code_for a.service)) Disagrees 2 ∷
    []

-- field 5 of the records that repeat the transaction number of their 30
abbrev pub same_number : Assignment → List ℕ → List Row
same_number a r =
    on transaction_field digits ∷
    must (eqb (number_in transaction_field r) a.number.0) Disagrees 5 ∷
    []

-- fields 1 to 5 of 31, 40, 41 and 49
abbrev pub repeats : Assignment → List ℕ → List Row
repeats a r = belongs a r ++ (must (eqb (type_code r) a.code) Disagrees 3 ∷ same_number a r)

abbrev pub record10 : List Row
record10 =
    outside ++
    (on sender_field digits ∷
    at 6 17 23 digits ∷
    at 7 24 31 (fixed "00008080") ∷
    at 8 32 80 zeros ∷
    [])

-- a 20 may open an assignment: there is room for one more, and the group before it gives its amount
abbrev pub may_open : Assignment → List Row
may_open a = file room TooManyAssignments 4 ∷ group_gives a ∷ []

-- field 2 where it repeats nothing: one of the two services
abbrev pub a_service : Row
a_service = at 2 3 4 (listed ("01" ∷ "04" ∷ []))

-- field 3 where it repeats nothing: a type of the record's service
abbrev pub a_type : List ℕ → Row
a_type r = at 3 5 6 (type_listed (service_code r))

-- fields 1 to 3 of 20
abbrev pub head20 : List Row
head20 =
    at 1 1 2 (fixed "NY") ∷
    a_service ∷
    at 3 5 6 (fixed "00") ∷
    []

-- fields 5 and 6 of 20
abbrev pub key20 : List ℕ → List Row
key20 r =
    on agreement_field digits ∷
    on assignment_field digits ∷
    file (fresh (key_in r)) KeySeen 6 ∷
    []

-- field 7 of 20
abbrev pub account20 : List Row
account20 =
    at 7 25 35 digits ∷
    at 7 25 35 right_account ∷
    []

-- fields 7 and 8 of 20
abbrev pub tail20 : List Row
tail20 = account20 ++ (at 8 36 80 zeros ∷ [])

abbrev pub record20 : Assignment → List ℕ → List Row
record20 a r = may_open a ++ head20 ++ key20 r ++ tail20

-- fields 1 to 3 of 30
abbrev pub head30 : Assignment → List ℕ → List Row
head30 a r = (group_gives a ∷ belongs a r) ++ (a_type r ∷ [])

-- field 5: above 0 first, then one more
abbrev pub number30 : Assignment → List ℕ → List Row
number30 a r =
    on transaction_field digits ∷
    must (follows a.number (transaction_number (number_in transaction_field r))) Disagrees 5 ∷
    []

abbrev pub date30 : Window → Assignment → List ℕ → List Row
date30 w a r =
    on date_field digits ∷
    on date_field a_date ∷
    must (in_time w a.service (date_in r)) OutOfTime 6 ∷
    []

abbrev pub party30 : List ℕ → List Row
party30 r =
    at 7 22 32 (party (service_code r)) ∷
    at 7 22 32 (party_account (service_code r) (type_code r)) ∷
    []

-- field 8: its own limit, the assignment's, the file's
abbrev pub amount30 : Assignment → List ℕ → List Row
amount30 a r =
    on amount_field digits ∷
    on amount_field (amount_allowed (type_code r)) ∷
    must (within a.totals.totals.sum (amount_in r) (limit_for a.service)) PastLimit 8 ∷
    file (takes (amount_in r)) PastLimit 8 ∷
    []

-- fields 9 and 10 of 30
abbrev pub tail30 : List ℕ → List Row
tail30 r =
    at 9 50 74 (kid_for (service_code r) (type_code r)) ∷
    at 10 75 80 zeros ∷
    []

abbrev pub record30 : Window → Assignment → List ℕ → List Row
record30 w a r = head30 a r ++ number30 a r ++ date30 w a r ++ party30 r ++ amount30 a r ++ tail30 r

-- fields 6 to 9 of 31
abbrev pub texts31 : List Row
texts31 =
    at 6 16 25 textual ∷
    at 7 26 50 textual ∷
    at 8 51 75 textual ∷
    at 9 76 80 zeros ∷
    []

abbrev pub record31 : Assignment → List ℕ → List Row
record31 a r = repeats a r ++ texts31

-- fields 6 to 10 of 40, by the transaction's type
abbrev pub address40 : ℕ → List Row
address40 t =
    at 6 16 45 (name t) ∷
    at 7 46 49 (postal t) ∷
    at 8 50 52 (filler t) ∷
    at 9 53 77 (name t) ∷
    at 10 78 80 zeros ∷
    []

abbrev pub record40 : Assignment → List ℕ → List Row
record40 a r = repeats a r ++ address40 (type_code r)

-- fields 6 to 9 of 41, by the transaction's type
abbrev pub address41 : ℕ → List Row
address41 t =
    at 6 16 45 textual ∷
    at 7 46 75 textual ∷
    at 8 76 78 (country t) ∷
    at 9 79 80 zeros ∷
    []

abbrev pub record41 : Assignment → List ℕ → List Row
record41 a r = repeats a r ++ address41 (type_code r)

-- the notification code of 49, which service 04 does not have
abbrev pub a_notification : Row
a_notification = at 6 16 16 (fixed "3")

abbrev pub notification_by : Bool → List Row
notification_by remittance = if remittance then [] else (a_notification ∷ [])

unfoldable pub notification49 : ℕ → List Row
notification49 s = notification_by (eqb s 4)

-- what line and column find of the message: their place is free, and the message is not past its limit with this record
abbrev pub free49 : Places → ℕ → ℕ → List Row
free49 ps line column =
    must (not (clashes ps line column)) PlaceTaken 7 ∷
    must (leb (used (with49 ps line column)) most_in_message) MessageFull 7 ∷
    []

-- line and column of 49: the place is judged when the column is sound, before the text
abbrev pub place49 : Message → Places → List ℕ → List Row
place49 m ps r = (on m.line line ∷ on m.column column ∷ []) ++ free49 ps (number_in m.line r) (number_in m.column r)

-- a message from its line on, wherever its service has it
abbrev pub message49 : Message → Places → List ℕ → List Row
message49 m ps r =
    place49 m ps r ++
    (on m.text textual ∷
    on m.filler zeros ∷
    [])

-- what a 49 of its service has behind its number
abbrev pub fields49 : Places → List ℕ → List Row
fields49 ps r = notification49 (service_code r) ++ message49 (message_of (service_code r)) ps r

abbrev pub record49 : Assignment → List ℕ → List Row
record49 a r = repeats a r ++ fields49 a.places r

-- fields 1 to 5 of 50
abbrev pub head50 : Assignment → List ℕ → List Row
head50 a r = belongs a r ++ (at 3 5 6 (listed ("16" ∷ "17" ∷ [])) ∷ same_number a r)

-- field 6 of 50
abbrev pub kid50 : List ℕ → List Row
kid50 r = at 6 16 40 (kid_of (service_code r)) ∷ []

-- field 7 of 50, and the sum that it adds to: type 16 specifies, type 17 credits
abbrev pub amount50 : List ℕ → ℕ
amount50 r = number_in specified_field r

abbrev pub sum50 : Assignment → List ℕ → List Row
sum50 a r =
    on specified_field digits ∷
    must (within (if eqb (type_code r) 16 then a.group.specified else a.group.credited) (amount (amount50 r)) limit_wide) PastLimit 7 ∷
    []

abbrev pub record50 : Assignment → List ℕ → List Row
record50 a r =
    head50 a r ++ kid50 r ++ sum50 a r ++
    (at 8 58 80 zeros ∷
    [])

-- a figure of record 88: Digits, and the assignment's own
abbrev pub own : Field → List ℕ → ℕ → List Row
own x r n = on x digits ∷ must (eqb (number_in x r) n) WrongFigure x.number ∷ []

-- fields 1 to 3 of 88
abbrev pub head88 : Assignment → List ℕ → List Row
head88 a r = (group_gives a ∷ belongs a r) ++ (at 3 5 6 (fixed "00") ∷ [])

-- fields 5 to 8 of 88, against the totals before it: it counts its assignment's records, itself included
abbrev pub figures88 : List ℕ → Totals → List Row
figures88 r t =
    own transactions_field r t.transactions.0 ++
    own records_field r (t.records.0 + 1) ++
    own sum_field r t.sum.0 ++
    own first_date_field r (ddmmyy t.first)

abbrev pub record88 : Assignment → List ℕ → List Row
record88 a r =
    head88 a r ++ figures88 r a.totals.totals ++ own last_date_field r (ddmmyy a.totals.last) ++
    (at 10 54 80 zeros ∷
    [])

-- a figure of record 89: Digits, and the file's own
abbrev pub of_file : Field → List ℕ → Figure → List Row
of_file x r w = on x digits ∷ file (figure w (number_in x r)) WrongFigure x.number ∷ []

abbrev pub record89 : List ℕ → List Row
record89 r =
    outside ++
    of_file transactions_field r transactions ++
    of_file records_field r records ++
    of_file sum_field r sum ++
    of_file first_date_field r first_date ++
    (at 9 48 80 zeros ∷
    [])

-- the table of a record type; no record of another type may stand anywhere
abbrev pub table_for : Kind → Window → Assignment → List ℕ → List Row
table_for R10 w a r = record10
table_for R20 w a r = record20 a r
table_for R30 w a r = record30 w a r
table_for R31 w a r = record31 a r
table_for R40 w a r = record40 a r
table_for R41 w a r = record41 a r
table_for R49 w a r = record49 a r
table_for R50 w a r = record50 a r
table_for R88 w a r = record88 a r
table_for R89 w a r = record89 r
table_for Other w a r = []

-- all rows of a record: 4, 5, then its table
abbrev pub rows : Mode → Window → Assignment → List ℕ → List Row
rows m w a r = at 0 81 81 line_feed ∷ must (may_follow m a (kind_of r)) OutOfPlace 4 ∷ table_for (kind_of r) w a r
