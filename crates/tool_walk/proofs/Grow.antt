-- Figures that take a record more, and the walk over the records before.
-- Assumes nothing.
use Prim.Native.Nat.{ℕ, suc, ◌+◌, ◌≤◌, ◌<◌}
use mathlib.Core.Path.{◌≡◌, refl, sym, ap, ap₂, subst, ◌∙◌}
use mathlib.Core.List.{List, [], ◌∷◌}
use mathlib.Core.Bool.{Bool, true, false, ◌&&◌}
use native.Mathlib.Omega.{arith}
use borrow.Author.Tests.{ltb-true, leb-true}
use lib.Dec.{ltb, leb}
use lib.ListN.{length, get_or, drop, drop_of_length-le}
use lib.Seq.{drop-cons}
use Rattle.std.specs.Prelude.{Option, Some}
use Rattle.std.specs.Option.{unwrap_or}
use Rattle.dates.specs.declared.Date.{Date}
use Rattle.fields.proofs.Tests.{and_left, and_right}
use Rattle.figures.specs.Figures.{amount, within, limit_wide}
use Rattle.figures.specs.Totals.{none, one_record, one_assignment, one_transaction, Room}
use Rattle.figures.specs.declared.amounts.Amount.{Amount}
use Rattle.figures.specs.declared.totals.Totals.{Totals}
use Rattle.dates.specs.Dates.{read_day}
use Rattle.limits.specs.Limits.{most_records}
use Rattle.rules.specs.Codes.{type_code}
use Rattle.rules.specs.Fields.{number_in, transaction_field, date_field, amount_field}
use Rattle.rules.specs.Payments.{the_date, date_in, amount_in}
use Rattle.rules.specs.declared.Kind.{Kind}
use Rattle.rules.specs.declared.Kind.TheVariants.{R10, R20, R30, R31, R40, R41, R49, R50, R88, R89, Other}
use Rattle.tool_walk.specs.Seen.{outside_of, passed_on, paid_on, onward_for, onward, onwards, seen_in, has_room, Takes, Payable, Follows, Followed}
use Rattle.tool_walk.specs.declared.Seen.{Seen}

-- ---- room for a record more
pub record Roomy (t : Totals) : Type 0 where
  pub assignments : t.assignments.0 < most_records
  pub transactions : t.transactions.0 < most_records
  pub records : t.records.0 < most_records
  pub sum : t.sum.0 ≤ limit_wide.0

each : (a b c d : Bool) → ((a && b) && c) && d ≡ true → (a ≡ true) × (b ≡ true) × (c ≡ true) × (d ≡ true)
each a b c d h =
    let abc = and_left ((a && b) && c) d h in
    let ab = and_left (a && b) c abc in
    (and_left a b ab, and_right a b ab, and_right (a && b) c abc, and_right ((a && b) && c) d h)

pub roomy : (t : Totals) → has_room t ≡ true → Roomy t
unfolding has_room
roomy t h =
    let e = each (ltb t.assignments.0 most_records) (ltb t.transactions.0 most_records) (ltb t.records.0 most_records) (leb t.sum.0 limit_wide.0) h in
    record { assignments = ltb-true _ _ e.0; transactions = ltb-true _ _ e.1; records = ltb-true _ _ e.2; sum = leb-true _ _ e.3 }

pub room_record : (t : Totals) → has_room t ≡ true → Room t one_record
room_record t h =
    let r = roomy t h in
    record { assignments = omega (arith, r.assignments); transactions = omega (arith, r.transactions); records = omega (arith, r.records); sum = omega (arith, r.sum) }

pub room_assignment : (t : Totals) → has_room t ≡ true → Room t one_assignment
room_assignment t h =
    let r = roomy t h in
    record { assignments = omega (arith, r.assignments); transactions = omega (arith, r.transactions); records = omega (arith, r.records); sum = omega (arith, r.sum) }

pub room_payment : (t : Totals) (x : Amount) (d : Date) → has_room t ≡ true → within t.sum x limit_wide ≡ true → Room t (one_transaction x d)
unfolding within
room_payment t x d h w =
    let r = roomy t h in
    let s : t.sum.0 + x.0 ≤ limit_wide.0 = leb-true (t.sum.0 + x.0) limit_wide.0 w in
    record { assignments = omega (arith, r.assignments); transactions = omega (arith, r.transactions); records = omega (arith, r.records); sum = omega (arith, s) }

pub not_both : {b : Bool} → b ≡ true → b ≡ false → ⊥
not_both h x = let z : ◌≡◌ {A = Bool} true false = sym h ∙ x in let y : ◌≡◌ {A = ℕ} 0 1 = cc in omega arith

-- ---- a payment as its fields were read
pub paid_is : (b : Seen) (x : Option Seen) (r : List ℕ) (t n y m : ℕ) (d : Date) → (Takes b (amount m) → x ≡ Some (paid_on t n (amount m) d b)) → t ≡ type_code r → number_in transaction_field r ≡ n
    → number_in date_field r ≡ y → d ≡ the_date (read_day y) → number_in amount_field r ≡ m → Payable b r → x ≡ Some (onward_for R30 r b)
paid_is b x r t n y m d f et en ey ed em p =
    let k : amount m ≡ amount_in r = ap amount (sym em) in
    let e : d ≡ date_in r = ed ∙ ap (λ (z : ℕ). the_date (read_day z)) (sym ey) in
    f (subst (Takes b) (sym k) p.takes) ∙ (λ i. Some (paid_on (et i) (sym en i) (k i) (e i) b))

-- ---- any type that only passes
pub passes : (k : Kind) (r : List ℕ) (s : Seen) → (k ≡ R10 → ⊥) → (k ≡ R20 → ⊥) → (k ≡ R30 → ⊥) → (k ≡ Other → ⊥) → passed_on k s ≡ onward_for k r s
passes R10 r s a b c d = absurd (a refl)
passes R20 r s a b c d = absurd (b refl)
passes R30 r s a b c d = absurd (c refl)
passes R31 r s a b c d = refl
passes R40 r s a b c d = refl
passes R41 r s a b c d = refl
passes R49 r s a b c d = refl
passes R50 r s a b c d = refl
passes R88 r s a b c d = refl
passes R89 r s a b c d = refl
passes Other r s a b c d = absurd (d refl)

-- ---- over the records before, one by one
pub record At (rs : List (List ℕ)) (now : Seen) (j : ℕ) : Type 0 where
  pub same : Followed (outside_of Other none) rs → Followed now (drop j rs) × (onwards now (drop j rs) ≡ seen_in rs)

pub at_next : (rs : List (List ℕ)) (r : List ℕ) (x y : Seen) (o : Option Seen) (j : ℕ) → At rs x j → j < length rs → r ≡ get_or rs j [] → (Follows x r → o ≡ Some (onward r x)) → y ≡ unwrap_or o x → At rs y (j + 1)
unfolding Followed onwards
at_next rs r x y o j a h i g u =
    let q : suc j ≡ j + 1 = omega arith in
    let n : drop j rs ≡ r ∷ drop (j + 1) rs = drop-cons rs j [] h ∙ ap₂ (λ (z : List ℕ) (m : ℕ). z ∷ drop m rs) (sym i) q in
    record {
      same = λ f.
          let s = a.same f in
          let w = subst (Followed x) n s.0 in
          let e : y ≡ onward r x = u ∙ ap (λ (z : Option Seen). unwrap_or z x) (g w.0) in
          (subst (λ (z : Seen). Followed z (drop (j + 1) rs)) (sym e) w.1, ap (λ (z : Seen). onwards z (drop (j + 1) rs)) e ∙ sym (ap (onwards x) n) ∙ s.1);
    }

pub at_end : (rs : List (List ℕ)) (x : Seen) (j : ℕ) → At rs x j → length rs ≤ j → Followed (outside_of Other none) rs → x ≡ seen_in rs
unfolding onwards
at_end rs x j a h f = sym (ap (onwards x) (drop_of_length-le rs h)) ∙ (a.same f).1
