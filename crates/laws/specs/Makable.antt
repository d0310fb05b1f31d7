-- Document 02, No. 1, and No. 2 for 41 and 49: why a record is made or refused, and what is read from a made record.
-- Assumes nothing.
use Rattle.std.specs.Prelude.{ℕ, ◌≤◌, ◌<◌, ◌≡◌, List, [], ◌∷◌, ◌++◌, true, false}
use Rattle.fields.specs.Bytes.{part}
use Rattle.fields.specs.Numbers.{value}
use Rattle.field_texts.specs.Texts.{to_left, to_right}
use Rattle.figures.specs.Totals.{none}
use Rattle.limits.specs.Limits.{record_bytes}
use Rattle.layout.specs.Rows.{AllHold}
use Rattle.rules.specs.Alone.{own_table}
use Rattle.rules.specs.Codes.{service_code, type_code}
use Rattle.rules.specs.Fields.{number_in, sender_field, agreement_field, assignment_field, transaction_field, date_field, amount_field, bytes_in, message_of, specified_field}
use Rattle.rules.specs.declared.Kind.{Kind}
use Rattle.rules.specs.declared.Kind.TheVariants.{R10, R20, R30, R31, R40, R41, R49, R50}
use Rattle.operations.specs.Making.{Put, made10, made20, made30, made31, made40, made41, made49, made50, record_from, not_made}
use Rattle.laws.specs.Meets.{Broken}
use Rattle.operations.specs.Making.{Making}
use Rattle.layout.specs.declared.Reason.TheVariants.{NoRoom, TooLong}
use Rattle.layout.specs.declared.Reason.{Reason}

-- every value fits into its field
unfoldable pub AllFit : List Put → Type 0
AllFit [] = Unit {0}
AllFit (p ∷ ps) = (p.fits ≡ true) × AllFit ps

-- the first value that is too long, for field k
pub record LongValue (ps : List Put) (k : ℕ) : Type 0 where
  pub before : List Put
  pub value : Put
  pub unseen : List Put
  pub whole : ps ≡ before ++ (value ∷ unseen)
  pub fit : AllFit before
  pub long : value.fits ≡ false
  pub field : value.field ≡ k

-- a record's own rules hold
abbrev pub OwnHold : Kind → List ℕ → Type 0
OwnHold k r = AllHold none [] r (own_table k r)

-- the first of them that does not, with reason n and field k
abbrev pub OwnFault : Kind → List ℕ → Reason → ℕ → Type 0
OwnFault kind r n k = Broken none [] r (own_table kind r) n k

-- what is made
pub record Makes (kind : Kind) (ps : List Put) (room : ℕ) : Type 0 where
  pub fit : AllFit ps
  pub own : OwnHold kind (record_from ps)
  pub enough : record_bytes ≤ room

-- why a record is refused, and with what
pub data MakeRefusing (kind : Kind) (ps : List Put) (room : ℕ) : Making → Type 0 where
  too_long_value : (k : ℕ) → LongValue ps k → MakeRefusing kind ps room (not_made TooLong k)
  own_rule : (n : Reason) (k : ℕ) → AllFit ps → OwnFault kind (record_from ps) n k → MakeRefusing kind ps room (not_made n k)
  no_room : AllFit ps → OwnHold kind (record_from ps) → room < record_bytes → MakeRefusing kind ps room (not_made NoRoom 0)

-- the values of the eight records
pub data Values : Kind → List Put → Type 0 where
  of10 : (sender n : ℕ) → Values R10 (made10 sender n)
  of20 : (service agreement assignment account : ℕ) → Values R20 (made20 service agreement assignment account)
  of30 : (service type n date : ℕ) (party : List ℕ) (amount : ℕ) (kid : List ℕ) → Values R30 (made30 service type n date party amount kid)
  of31 : (service type n : ℕ) (text6 text7 text8 : List ℕ) → Values R31 (made31 service type n text6 text7 text8)
  of40 : (service type n : ℕ) (name postal filler area : List ℕ) → Values R40 (made40 service type n name postal filler area)
  of41 : (service type n : ℕ) (address1 address2 country : List ℕ) → Values R41 (made41 service type n address1 address2 country)
  of49 : (service type n line column : ℕ) (words : List ℕ) → Values R49 (made49 service type n line column words)
  of50 : (service type n : ℕ) (kid : List ℕ) (amount : ℕ) → Values R50 (made50 service type n kid amount)

-- fields 2, 3 and 5 of the records of a transaction
abbrev pub HeadRead : ℕ → ℕ → ℕ → List ℕ → Type 0
HeadRead service type n r = (service_code r ≡ service) × (type_code r ≡ type) × (number_in transaction_field r ≡ n)

-- every value read from a record, a text with its blanks
unfoldable pub ReadsBack : (kind : Kind) (ps : List Put) → Values kind ps → List ℕ → Type 0
ReadsBack _ _ (of10 sender n) r = (number_in sender_field r ≡ sender) × (value (part 17 23 r) ≡ n)
ReadsBack _ _ (of20 service agreement assignment account) r =
    (service_code r ≡ service) × (number_in agreement_field r ≡ agreement) × (number_in assignment_field r ≡ assignment) × (value (part 25 35 r) ≡ account)
ReadsBack _ _ (of30 service type n date party amount kid) r =
    HeadRead service type n r × (number_in date_field r ≡ date) × (part 22 32 r ≡ to_right 11 party) × (number_in amount_field r ≡ amount) × (part 50 74 r ≡ to_right 25 kid)
ReadsBack _ _ (of31 service type n text6 text7 text8) r =
    HeadRead service type n r × (part 16 25 r ≡ to_left 10 text6) × (part 26 50 r ≡ to_left 25 text7) × (part 51 75 r ≡ to_left 25 text8)
ReadsBack _ _ (of40 service type n name postal filler area) r =
    HeadRead service type n r × (part 16 45 r ≡ to_left 30 name) × (part 46 49 r ≡ to_left 4 postal) × (part 50 52 r ≡ to_left 3 filler) × (part 53 77 r ≡ to_left 25 area)
ReadsBack _ _ (of41 service type n address1 address2 country) r =
    HeadRead service type n r × (part 16 45 r ≡ to_left 30 address1) × (part 46 75 r ≡ to_left 30 address2) × (part 76 78 r ≡ to_left 3 country)
ReadsBack _ _ (of49 service type n line column words) r =
    HeadRead service type n r × (number_in (message_of service).line r ≡ line) × (number_in (message_of service).column r ≡ column) × (bytes_in (message_of service).text r ≡ to_left 40 words)
ReadsBack _ _ (of50 service type n kid amount) r =
    HeadRead service type n r × (part 16 40 r ≡ to_right 25 kid) × (number_in specified_field r ≡ amount)
