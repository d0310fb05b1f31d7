-- What is seen in the records before a refused one, of the rules' state (`Growth` in `rules`): all that fields 2 to 9 of the next record are held to.
-- Assumes nothing.
use Rattle.std.specs.Prelude.{ℕ, ◌≤◌, ◌≡◌, List, [], ◌∷◌, Bool, true, ◌&&◌, ltb, leb}
use Rattle.dates.specs.declared.Date.{Date}
use Rattle.limits.specs.Limits.{most_records}
use Rattle.services.specs.declared.Service.TheVariants.{Remittance}
use Rattle.fields.specs.Bytes.{every, is_digit}
use Rattle.figures.specs.Figures.{transaction_number, within, limit_wide}
use Rattle.figures.specs.Totals.{none, ◌⊕◌, one_record, one_assignment, one_transaction, none_yet, ◌⊞◌, undated, dated}
use Rattle.figures.specs.declared.amounts.Amount.{Amount}
use Rattle.figures.specs.declared.totals.Totals.{Totals}
use Rattle.services.specs.Services.{service_for}
use Rattle.rules.specs.Codes.{service_code, type_code, kind_of}
use Rattle.rules.specs.Fields.{bytes_in, number_in, transaction_field, date_field, amount_field}
use Rattle.rules.specs.Payments.{date_in, amount_in}
use Rattle.rules.specs.declared.Assignment.{Assignment}
use Rattle.rules.specs.declared.Kind.{Kind}
use Rattle.rules.specs.declared.Kind.TheVariants.{R10, R20, R30, R31, R40, R41, R49, R50, R88, R89, Other}
use Rattle.tool_walk.specs.declared.Seen.{Seen}

-- the last transaction number: it has seven digits
abbrev pub last_number : ℕ
last_number = 9_999_999

-- of a file with these figures, and the assignment at hand
abbrev pub told : Totals → Assignment → Seen
told f a = record { last = a.last; service = a.service; code = a.code; number = a.number; totals = a.totals; file = f }

abbrev pub outside_of : Kind → Totals → Seen
outside_of k f = record { last = k; service = Remittance; code = 0; number = transaction_number 0; totals = none_yet; file = f }

abbrev pub passed_on : Kind → Seen → Seen
passed_on k s =
    record { last = k; service = s.service; code = s.code; number = s.number; totals = s.totals ⊞ undated one_record; file = s.file ⊕ one_record }

abbrev pub paid_on : ℕ → ℕ → Amount → Date → Seen → Seen
paid_on t n x d s =
    record { last = R30; service = s.service; code = t; number = transaction_number n; totals = s.totals ⊞ dated x d; file = s.file ⊕ one_transaction x d }

-- after one record more, of a known type
abbrev pub onward_for : Kind → List ℕ → Seen → Seen
onward_for R10 r s = outside_of R10 (s.file ⊕ one_record)
onward_for R20 r s =
    record { last = R20; service = service_for (service_code r); code = 0; number = transaction_number 0; totals = undated one_assignment; file = s.file ⊕ one_assignment }
onward_for R30 r s = paid_on (type_code r) (number_in transaction_field r) (amount_in r) (date_in r) s
onward_for R31 r s = passed_on R31 s
onward_for R40 r s = passed_on R40 s
onward_for R41 r s = passed_on R41 s
onward_for R49 r s = passed_on R49 s
onward_for R50 r s = passed_on R50 s
onward_for R88 r s = passed_on R88 s
onward_for R89 r s = passed_on R89 s
onward_for Other r s = s

abbrev pub onward : List ℕ → Seen → Seen
onward r s = onward_for (kind_of r) r s

-- after all these records
unfoldable pub onwards : Seen → List (List ℕ) → Seen
onwards s [] = s
onwards s (r ∷ rs) = onwards (onward r s) rs

abbrev pub seen_in : List (List ℕ) → Seen
seen_in rs = onwards (outside_of Other none) rs

-- figures that take a record more
unfoldable pub has_room : Totals → Bool
has_room t =
    ((ltb t.assignments.0 most_records && ltb t.transactions.0 most_records) && ltb t.records.0 most_records) && leb t.sum.0 limit_wide.0

-- both sums take the amount
pub record Takes (s : Seen) (x : Amount) : Type 0 where
  pub own : within s.totals.totals.sum x limit_wide ≡ true
  pub file : within s.file.sum x limit_wide ≡ true

-- a record 30 that was found sound
pub record Payable (s : Seen) (r : List ℕ) : Type 0 where
  pub number : every is_digit (bytes_in transaction_field r) ≡ true
  pub small : number_in transaction_field r ≤ last_number
  pub date : every is_digit (bytes_in date_field r) ≡ true
  pub amount : every is_digit (bytes_in amount_field r) ≡ true
  pub takes : Takes s (amount_in r)

-- a record that was found sound
pub record Follows (s : Seen) (r : List ℕ) : Type 0 where
  pub file : has_room s.file ≡ true
  pub own : has_room s.totals.totals ≡ true
  pub known : kind_of r ≡ Other → ⊥
  pub paid : kind_of r ≡ R30 → Payable s r

-- records that were found sound, one after the other
unfoldable pub Followed : Seen → List (List ℕ) → Type 0
Followed s [] = Unit {0}
Followed s (r ∷ rs) = Follows s r × Followed (onward r s) rs
