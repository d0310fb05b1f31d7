-- The running totals are the plain figures of the records: counted, summed, the least date.
-- Assumes nothing.
use Prim.Native.Nat.{ℕ, ◌<◌}
use mathlib.Core.Path.{◌≡◌, refl, sym, ap, subst, ◌∙◌}
use mathlib.Core.List.{List, [], ◌∷◌, ◌++◌}
use mathlib.Core.Bool.{Bool, true, false, false≢true}
use native.Mathlib.Omega.{arith}
use borrow.Author.Tests.{eqb-true, ne_eqb}
use lib.Dec.{eqb, ltb}
use Rattle.std.specs.Prelude.{if◌then◌else◌, Option, Some, None}
use Rattle.fields.specs.Bytes.{part}
use Rattle.fields.specs.Numbers.{value}
use Rattle.dates.specs.Dates.{date, earlier, read_day}
use Rattle.dates.specs.declared.Date.{Date}
use Rattle.dates.specs.declared.Window.{Window}
use Rattle.dates.proofs.Laws.{earlier_assoc, earlier_none, none_earlier, day_range}
use Rattle.figures.specs.Totals.{◌⊕◌, one_record, one_assignment, one_transaction}
use Rattle.figures.specs.declared.totals.Totals.{Totals}
use Rattle.layout.specs.Rows.{AllHold}
use Rattle.rules.specs.Codes.{record_code, kind_for, kind_of}
use Rattle.rules.proofs.Codes.{at_codes}
use Rattle.rules.specs.Payments.{is_day, the_date, date_in, amount_in}
use Rattle.rules.specs.Layouts.{rows, table_for, record30}
use Rattle.rules.specs.Growth.{gain, gain_for, turn, keys}
use Rattle.rules.specs.declared.Assignment.{Assignment}
use Rattle.rules.specs.declared.Mode.{Mode}
use Rattle.laws.specs.Meets.{gains, Meets}
use Rattle.laws.specs.Plain.{of_type, sum_of, least, least_date, FiguresOf}

-- what a record adds, by its code
abbrev plain_gain : ℕ → List ℕ → Totals
plain_gain n r = if eqb n 30 then one_transaction (amount_in r) (date_in r) else (if eqb n 20 then one_assignment else one_record)

gain_is : (n : ℕ) (r : List ℕ) → gain_for (kind_for n) r ≡ plain_gain n r
unfolding kind_for
gain_is n r =
    at_codes P n refl refl refl refl refl refl refl refl refl refl λ a b c d e f g h i j. simp (a, b, c, d, e, f, g, h, i, j)
  where
    P : ℕ → Type 0
    P n = gain_for (kind_for n) r ≡ plain_gain n r

-- a record 30 has a date of the calendar
abbrev DateIn : List ℕ → Type 0
DateIn r = 0 < (date_in r).0

pub data Dated : List (List ℕ) → Type 0 where
  none_dated : Dated []
  more_dated : {r : List ℕ} {rs : List (List ℕ)} → (record_code r ≡ 30 → DateIn r) → Dated rs → Dated (r ∷ rs)

-- the least date of the records 30, added one by one
earlier_by : (d e : ℕ) → 0 < d → 0 < e → (b : Bool) → ltb e d ≡ b → earlier (date d) (date e) ≡ (if b then date e else date d)
unfolding earlier
earlier_by d e p q b h = simp (ne_eqb d 0 (λ z. omega arith), ne_eqb e 0 (λ z. omega arith), h)

data AllDated : List (List ℕ) → Type 0 where
  none_all : AllDated []
  more_all : {r : List ℕ} {rs : List (List ℕ)} → DateIn r → AllDated rs → AllDated (r ∷ rs)

least_is : (d : ℕ) (xs : List (List ℕ)) → 0 < d → AllDated xs → (earlier (date d) (date (least_date xs))).0 ≡ least d xs
unfolding least least_date
least_is d [] p none_all = ap (λ (x : Date). x.0) (earlier_none (date d))
least_is d (x ∷ xs) p (more_all q h) = go (ltb (date_in x).0 d) refl (least_is (date_in x).0 xs q h) (least_is d xs p h)
  where
    e : ℕ
    e = (date_in x).0

    L : Date
    L = date (least_date xs)

    go : (b : Bool) → ltb (date_in x).0 d ≡ b → (earlier (date (date_in x).0) (date (least_date xs))).0 ≡ least (date_in x).0 xs → (earlier (date d) (date (least_date xs))).0 ≡ least d xs
        → (earlier (date d) (date (least (date_in x).0 xs))).0 ≡ (if b then least (date_in x).0 xs else least d xs)
    go b t h1 h2 =
        ap (λ (m : ℕ). (earlier (date d) (date m)).0) (sym h1)
        ∙ ap (λ (x : Date). x.0) (sym (earlier_assoc (date d) (date (date_in x).0) (date (least_date xs))))
        ∙ ap (λ (y : Date). (earlier y (date (least_date xs))).0) (earlier_by d (date_in x).0 p q b t)
        ∙ pick b h1 h2
      where
        pick : (b : Bool) → (earlier (date (date_in x).0) (date (least_date xs))).0 ≡ least (date_in x).0 xs → (earlier (date d) (date (least_date xs))).0 ≡ least d xs
            → (earlier (if b then date (date_in x).0 else date d) (date (least_date xs))).0 ≡ (if b then least (date_in x).0 xs else least d xs)
        pick true h1 h2 = h1
        pick false h1 h2 = h2

dated_30 : (rs : List (List ℕ)) → Dated rs → AllDated (of_type 30 rs)
unfolding of_type
dated_30 [] none_dated = none_all
dated_30 (r ∷ rs) (more_dated h d) = go (eqb (record_code r) 30) refl (dated_30 rs d)
  where
    go : (b : Bool) → eqb (record_code r) 30 ≡ b → AllDated (of_type 30 rs) → AllDated (if b then (r ∷ of_type 30 rs) else of_type 30 rs)
    go true e ih = more_all (h (eqb-true (record_code r) 30 e)) ih
    go false e ih = ih

-- one record more
first_of : (r : List ℕ) (rs : List (List ℕ)) (t : Totals) → DateIn r → AllDated (of_type 30 rs) → t.first.0 ≡ least_date (of_type 30 rs)
    → (earlier (date_in r) t.first).0 ≡ least_date (r ∷ of_type 30 rs)
unfolding least_date
first_of r rs t p d h = ap (λ (n : ℕ). (earlier (date_in r) (date n)).0) h ∙ least_is (date_in r).0 (of_type 30 rs) p d

grown : (r : List ℕ) (rs : List (List ℕ)) (t : Totals) → (record_code r ≡ 30 → DateIn r) → AllDated (of_type 30 rs) → FiguresOf rs t → FiguresOf (r ∷ rs) (gain r ⊕ t)
unfolding of_type sum_of
grown r rs t p d v = subst (λ (g : Totals). FiguresOf (r ∷ rs) (g ⊕ t)) (sym (gain_is (record_code r) r)) (go (eqb (record_code r) 30) (eqb (record_code r) 20) refl refl)
  where
    go : (x y : Bool) → eqb (record_code r) 30 ≡ x → eqb (record_code r) 20 ≡ y → FiguresOf (r ∷ rs) (plain_gain (record_code r) r ⊕ t)
    go true true e f = absurd (omega (arith, eqb-true (record_code r) 30 e, eqb-true (record_code r) 20 f))
    go true false e f =
        record {
          assignments = rw (e, f) (omega (arith, v.assignments));
          transactions = rw (e) (omega (arith, v.transactions));
          records = rw (e) (omega (arith, v.records));
          sum = rw (e) (omega (arith, v.sum));
          first = rw (e) (first_of r rs t (p (eqb-true (record_code r) 30 e)) d v.first);
        }
    go false true e f =
        record {
          assignments = rw (e, f) (omega (arith, v.assignments));
          transactions = rw (e, f) (omega (arith, v.transactions));
          records = rw (e, f) (omega (arith, v.records));
          sum = rw (e, f) (omega (arith, v.sum));
          first = rw (e, f) (ap (λ (x : Date). x.0) (none_earlier t.first) ∙ v.first);
        }
    go false false e f =
        record {
          assignments = rw (e, f) (omega (arith, v.assignments));
          transactions = rw (e, f) (omega (arith, v.transactions));
          records = rw (e, f) (omega (arith, v.records));
          sum = rw (e, f) (omega (arith, v.sum));
          first = rw (e, f) (ap (λ (x : Date). x.0) (none_earlier t.first) ∙ v.first);
        }

pub figures_are : (rs : List (List ℕ)) → Dated rs → FiguresOf rs (gains rs)
unfolding gains of_type sum_of least_date
figures_are [] none_dated = record { assignments = refl; transactions = refl; records = refl; sum = refl; first = refl }
figures_are (r ∷ rs) (more_dated h d) = grown r rs (gains rs) h (dated_30 rs d) (figures_are rs d)

-- records that meet the rules are dated
a_day : (n : ℕ) → is_day (read_day n) ≡ true → 0 < (the_date (read_day n)).0
unfolding read_day
a_day n h = go (read_day n) refl h
  where
    go : (x : Option Date) → read_day n ≡ x → is_day x ≡ true → 0 < (the_date x).0
    go (Some d) e h = omega (arith, day_range _ _ _ d e)
    go None e h = absurd (false≢true h)

date_of : (m : Mode) (w : Window) (f : Totals) (ks : List ℕ) (a : Assignment) (r : List ℕ) → AllHold f ks r (rows m w a r) → record_code r ≡ 30 → DateIn r
unfolding AllHold kind_for
date_of m w f ks a r h e =
    let t : AllHold f ks r (table_for (kind_of r) w a r) = h.1.1 in
    let u : AllHold f ks r (record30 w a r) = subst (λ (n : ℕ). AllHold f ks r (table_for (kind_for n) w a r)) e t in
    a_day (value (part 16 21 r)) u.1.1.1.1.1.1.1.0

pub meets_dated : (m : Mode) (w : Window) (f : Totals) (ks : List ℕ) (a : Assignment) (rs : List (List ℕ)) → Meets m w f ks a rs → Dated rs
unfolding Meets
meets_dated m w f ks a [] h = none_dated
meets_dated m w f ks a (r ∷ rs) h = more_dated (date_of m w f ks a r h.0) (meets_dated m w (f ⊕ gain r) (ks ++ keys r) (turn r a) rs h.1)
