-- Document 01, "What may follow": what a record adds to the file, what it makes of the assignment at hand, and the key that it brings.
-- Assumes nothing.
use Rattle.std.specs.Prelude.{ℕ, List, [], ◌∷◌, ◌++◌, eqb, if◌then◌else◌}
use Rattle.services.specs.declared.Service.{Service}
use Rattle.services.specs.declared.Service.TheVariants.{Remittance}
use Rattle.figures.specs.Figures.{amount, transaction_number}
use Rattle.figures.specs.Totals.{none, ◌⊕◌, one_record, one_assignment, one_transaction, none_yet, ◌⊞◌, undated, dated}
use Rattle.figures.specs.Groups.{empty_group, with_specified, with_credited}
use Rattle.dates.specs.declared.Date.{Date}
use Rattle.figures.specs.declared.amounts.Amount.{Amount}
use Rattle.figures.specs.declared.counts.TransactionNumber.{TransactionNumber}
use Rattle.figures.specs.declared.groups.Group.{Group}
use Rattle.figures.specs.declared.totals.Totals.{Totals}
use Rattle.services.specs.Services.{service_for}
use Rattle.rules.specs.Fields.{number_in, transaction_field}
use Rattle.rules.specs.Codes.{service_code, type_code, kind_of, number_of_kind, key_in}
use Rattle.rules.specs.Messages.{no_places, with_record}
use Rattle.rules.specs.Payments.{date_in, amount_in}
use Rattle.rules.specs.Layouts.{amount50}
use Rattle.rules.specs.declared.Kind.{Kind}
use Rattle.rules.specs.declared.Kind.TheVariants.{R10, R20, R30, R31, R40, R41, R49, R50, R88, R89, Other}
use Rattle.rules.specs.declared.Places.{Places}
use Rattle.rules.specs.declared.Assignment.{Assignment}
use Rattle.rules.specs.declared.State.{State}

-- what a record adds to the file: itself; a 20 an assignment too; a 30 a transaction too
abbrev pub gain_for : Kind → List ℕ → Totals
gain_for k r = if eqb (number_of_kind k) 30 then one_transaction (amount_in r) (date_in r) else (if eqb (number_of_kind k) 20 then one_assignment else one_record)

-- before any assignment, after the record of this type
abbrev pub nothing_yet : Kind → Assignment
nothing_yet k = record { last = k; service = Remittance; totals = none_yet; number = transaction_number 0; code = 0; due = amount 0; group = empty_group; places = no_places }

abbrev pub opened : Service → Assignment
opened s = record { last = R20; service = s; totals = undated one_assignment; number = transaction_number 0; code = 0; due = amount 0; group = empty_group; places = no_places }

-- one record more that brings no transaction
abbrev pub passed : Kind → Group → Places → Assignment → Assignment
passed k g ps a = record { last = k; service = a.service; totals = a.totals ⊞ undated one_record; number = a.number; code = a.code; due = a.due; group = g; places = ps }

-- only a transaction of type 16 has sub-specifications, which have to give its amount
abbrev pub due_for : ℕ → Amount → Amount
due_for t x = if eqb t 16 then x else amount 0

-- one transaction more
abbrev pub paid_as : ℕ → TransactionNumber → Amount → Date → Assignment → Assignment
paid_as t n x d a =
    record {
      last = R30;
      service = a.service;
      totals = a.totals ⊞ dated x d;
      number = n;
      code = t;
      due = due_for t x;
      group = empty_group;
      places = no_places;
    }

abbrev pub paid : List ℕ → Assignment → Assignment
paid r a = paid_as (type_code r) (transaction_number (number_in transaction_field r)) (amount_in r) (date_in r) a

-- type 16 specifies, type 17 credits
abbrev pub grouped_as : ℕ → Amount → Group → Group
grouped_as t x g = if eqb t 16 then with_specified g x else with_credited g x

abbrev pub grouped : List ℕ → Group → Group
grouped r g = grouped_as (type_code r) (amount (amount50 r)) g

-- what a record makes of the assignment at hand
abbrev pub turn_for : Kind → List ℕ → Assignment → Assignment
turn_for R10 r a = nothing_yet R10
turn_for R20 r a = opened (service_for (service_code r))
turn_for R30 r a = paid r a
turn_for R31 r a = passed R31 a.group a.places a
turn_for R40 r a = passed R40 a.group a.places a
turn_for R41 r a = passed R41 a.group a.places a
turn_for R49 r a = passed R49 a.group (with_record a.places r) a
turn_for R50 r a = passed R50 (grouped r a.group) a.places a
turn_for R88 r a = passed R88 a.group a.places a
turn_for R89 r a = passed R89 a.group a.places a
turn_for Other r a = a

-- the key that a record 20 brings
abbrev pub keys_for : Kind → List ℕ → List ℕ
keys_for k r = if eqb (number_of_kind k) 20 then key_in r ∷ [] else []

abbrev pub gain : List ℕ → Totals
gain r = gain_for (kind_of r) r

abbrev pub turn : List ℕ → Assignment → Assignment
turn r a = turn_for (kind_of r) r a

abbrev pub keys : List ℕ → List ℕ
keys r = keys_for (kind_of r) r

abbrev pub after_for : Kind → State → List ℕ → State
after_for k st r = record { file = st.file ⊕ gain_for k r; assignment = turn_for k r st.assignment }

-- the state after a record, sound or not
abbrev pub after : State → List ℕ → State
after st r = after_for (kind_of r) st r

abbrev pub start : State
start = record { file = none; assignment = nothing_yet Other }

-- what a list of records adds to the file, makes of the assignment at hand, and brings in keys
unfoldable pub gains : List (List ℕ) → Totals
gains [] = none
gains (r ∷ rs) = gain r ⊕ gains rs

unfoldable pub turns : Assignment → List (List ℕ) → Assignment
turns a [] = a
turns a (r ∷ rs) = turns (turn r a) rs

unfoldable pub all_keys : List (List ℕ) → List ℕ
all_keys [] = []
all_keys (r ∷ rs) = keys r ++ all_keys rs
