-- Document 01, "Layouts", the text under the table: what service and transaction type ask of fields 3, 7, 8 and 9 of a record 30, and of a record 40; document 02, No. 2, of a record 41.
-- Assumes nothing.
use Rattle.std.specs.Prelude.{ℕ, List, [], ◌∷◌, Bool, true, false, not, ◌&&◌, ◌||◌, leb, ltb, eqb, if◌then◌else◌, Option, Some, None}
use Rattle.limits.specs.Limits.{most_of_type04}
use Rattle.fields.specs.Bytes.{every, is_digit, is_blank, is_text, is_digit_or_blank}
use Rattle.fields.specs.Numbers.{value, code_of}
use Rattle.fields.specs.Accounts.{account_of, is_right}
use Rattle.fields.specs.Kids.{at_right, is_kid, is_reference}
use Rattle.dates.specs.Dates.{date, read_day}
use Rattle.dates.specs.declared.Date.{Date}
use Rattle.services.specs.declared.Service.{Service}
use Rattle.services.specs.declared.Service.TheVariants.{Autogiro, Remittance}
use Rattle.figures.specs.Figures.{amount, limit04, limit_wide}
use Rattle.figures.specs.declared.amounts.Amount.{Amount}
use Rattle.layout.specs.Rows.{member}
use Rattle.layout.specs.Rules.{Rule, rule}
use Rattle.rules.specs.Fields.{number_in, date_field, amount_field}
use Rattle.layout.specs.declared.Reason.TheVariants.{NotFixed, WrongForm, NotADate, WrongAccount, PastLimit}

-- the types in record 30, for a service's code
abbrev pub types_for : ℕ → List ℕ
types_for s =
    if eqb s 1 then (2 ∷ 3 ∷ [])
    else (if eqb s 4 then (1 ∷ 2 ∷ 3 ∷ 4 ∷ 12 ∷ 16 ∷ 18 ∷ 32 ∷ 37 ∷ 62 ∷ 65 ∷ 66 ∷ []) else [])

unfoldable pub is_type : ℕ → ℕ → Bool
is_type s t = member t (types_for s)

abbrev pub type_listed : ℕ → Rule
type_listed s = rule (λ f. is_type s (code_of f)) NotFixed

-- a date field is a date, else 9
abbrev pub is_day : Option Date → Bool
is_day (Some d) = true
is_day None = false

abbrev pub a_date : Rule
a_date = rule (λ s. is_day (read_day (value s))) NotADate

-- the date that it is; none where it is none
abbrev pub the_date : Option Date → Date
the_date (Some d) = d
the_date None = date 0

-- what a record 30 has in field 6 and field 8
abbrev pub date_in : List ℕ → Date
date_in r = the_date (read_day (number_in date_field r))

abbrev pub amount_in : List ℕ → Amount
amount_in r = amount (number_in amount_field r)

-- field 7: service 01 an Account or a Reference; service 04 an Account, or 11 Digits of any sort for type 04
unfoldable pub party_form : ℕ → List ℕ → Bool
party_form s f = every is_digit f || eqb s 1 && is_reference f

unfoldable pub party_right : ℕ → ℕ → List ℕ → Bool
party_right s t f = is_right (account_of f) || (if eqb s 1 then is_reference f else eqb t 4)

abbrev pub party : ℕ → Rule
party s = rule (party_form s) WrongForm

abbrev pub party_account : ℕ → ℕ → Rule
party_account s t = rule (party_right s t) WrongAccount

-- field 8: type 04 at most 9,999,999,999; type 16 above 0
unfoldable pub own_limit : ℕ → ℕ → Bool
own_limit t n = if eqb t 4 then leb n most_of_type04 else (if eqb t 16 then ltb 0 n else true)

abbrev pub amount_allowed : ℕ → Rule
amount_allowed t = rule (λ f. own_limit t (value f)) PastLimit

-- the limit of an assignment's sum
abbrev pub limit_for : Service → Amount
limit_for Autogiro = limit_wide
limit_for Remittance = limit04

-- a KID: service 01 takes only the right end
unfoldable pub is_kid_of : ℕ → List ℕ → Bool
is_kid_of s f = if eqb s 1 then at_right f else is_kid f

-- field 6 of a 50: a KID of the record's service, else 8
abbrev pub kid_of : ℕ → Rule
kid_of s = rule (is_kid_of s) WrongForm

-- field 9: service 01 blank or KID; service 04 KID for type 12, blank for every other
unfoldable pub kid_form : ℕ → ℕ → List ℕ → Bool
kid_form s t f =
    if eqb s 1 then every is_blank f || at_right f else (if eqb t 12 then is_kid f else every is_blank f)

abbrev pub kid_for : ℕ → ℕ → Rule
kid_for s t = rule (kid_form s t) WrongForm

-- record 40: Text; for type 04 not blank
unfoldable pub name_form : ℕ → List ℕ → Bool
name_form t f = every is_text f && (if eqb t 4 then not (every is_blank f) else true)

-- every byte a digit or blank; for type 04 Digits
unfoldable pub postal_form : ℕ → List ℕ → Bool
postal_form t f = if eqb t 4 then every is_digit f else every is_digit_or_blank f

-- every byte a digit or blank; for type 04 blank
unfoldable pub filler_form : ℕ → List ℕ → Bool
filler_form t f = if eqb t 4 then every is_blank f else every is_digit_or_blank f

abbrev pub name : ℕ → Rule
name t = rule (name_form t) WrongForm

abbrev pub postal : ℕ → Rule
postal t = rule (postal_form t) WrongForm

abbrev pub filler : ℕ → Rule
filler t = rule (filler_form t) WrongForm

-- record 41: Text; for type 04 blank, since a money order stays in the country
unfoldable pub country_form : ℕ → List ℕ → Bool
country_form t f = if eqb t 4 then every is_blank f else every is_text f

abbrev pub country : ℕ → Rule
country t = rule (country_form t) WrongForm

-- record 49: line 001 to 021, column 1 or 2; document 02, No. 3: or 0, for no place
unfoldable pub is_line : List ℕ → Bool
is_line f = every is_digit f && leb (value f) 21

unfoldable pub is_column : List ℕ → Bool
is_column f = every is_digit f && leb (value f) 2

abbrev pub line : Rule
line = rule is_line NotFixed

abbrev pub column : Rule
column = rule is_column NotFixed
