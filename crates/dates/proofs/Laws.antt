-- What a date's number says of its year, month and day, DDMMYY there and back, and the earlier and the later of dates.
-- Assumes nothing.
use Prim.Native.Nat.{ℕ, zero, suc, ◌+◌, ◌*◌, ◌/◌, ◌%◌, ◌≤◌, ◌<◌, min, max}
use mathlib.Core.Path.{◌≡◌, refl, sym, ap, ◌∙◌}
use mathlib.Core.Bool.{Bool, true, false, ◌&&◌, ◌||◌}
use native.Mathlib.Nat.{le_trans, min_comm, max_comm, zero-max}
use native.Mathlib.Omega.{arith}
use lib.Dec.{ltb, eqb, eqb-suc-zero}
use borrow.Author.Tests.{leb-true, ltb-true, ltb-false}
use Rattle.std.specs.Prelude.{if◌then◌else◌, Some, None}
use Rattle.dates.specs.declared.Date.{Date}
use Rattle.dates.specs.Dates.{date, days_in, is_date, date_number, day_of, read_day, ddmmyy, earlier, later}

-- the bounds of a date's year, month and day
pub record Parts (y m d : ℕ) : Type 0 where
  pub year_from : 2000 ≤ y
  pub year_to : y ≤ 2099
  pub month_from : 1 ≤ m
  pub month_to : m ≤ 12
  pub day_from : 1 ≤ d
  pub day_to : d ≤ 31

-- of two tests that hold together each holds
both : (a b : Bool) → (a && b) ≡ true → (a ≡ true) × (b ≡ true)
both true b e = (refl, e)
both false b e = (e, cc)

-- no month has more than 31 days
days_most : (y m : ℕ) → days_in y m ≤ 31
unfolding days_in
days_most y m = go (eqb m 2) (eqb (y % 4) 0) (eqb m 4 || eqb m 6 || eqb m 9 || eqb m 11)
  where
    go : (second leap short : Bool) → (if second then (if leap then 29 else 28) else (if short then 30 else 31)) ≤ 31
    go true true short = omega arith
    go true false short = omega arith
    go false leap true = omega arith
    go false leap false = omega arith

-- a date's year, month and day are within their bounds
pub parts : (y m d : ℕ) → is_date y m d ≡ true → Parts y m d
unfolding is_date
parts y m d e =
    let w = both _ _ e in
    let v = both _ _ w.0 in
    let year = both _ _ v.0 in
    let month = both _ _ v.1 in
    let day = both _ _ w.1 in
    record {
      year_from = leb-true _ _ year.0;
      year_to = leb-true _ _ year.1;
      month_from = leb-true _ _ month.0;
      month_to = leb-true _ _ month.1;
      day_from = leb-true _ _ day.0;
      day_to = le_trans (leb-true _ _ day.1) (days_most y m);
    }

-- a year, a month and a day that have a date are one, and the date is their number
pub day_parts : (y m d : ℕ) (e : Date) → day_of y m d ≡ Some e → (is_date y m d ≡ true) × (e ≡ date (date_number y m d))
unfolding day_of
day_parts y m d e q = go (is_date y m d) refl q
  where
    go : (b : Bool) → is_date y m d ≡ b → (if b then Some (date (date_number y m d)) else None) ≡ Some e → (is_date y m d ≡ true) × (e ≡ date (date_number y m d))
    go true w r = (w, cc)
    go false w r = (cc, cc)

-- the number of a date that day_of gives, with the bounds of its parts
numbered : (y m d : ℕ) (e : Date) → day_of y m d ≡ Some e → (e.0 ≡ date_number y m d) × Parts y m d
numbered y m d e q = let w = day_parts y m d e q in (ap (λ t. t.0) w.1, parts y m d w.0)

-- a date's number lies in the years 2000 to 2099
pub day_range : (y m d : ℕ) (e : Date) → day_of y m d ≡ Some e → (20000101 ≤ e.0) × (e.0 ≤ 20991231)
day_range y m d e q = let w = numbered y m d e q in omega arith

-- of two dates the one of the earlier year has the smaller number
pub calendar_year : (y₁ m₁ d₁ y₂ m₂ d₂ : ℕ) (e₁ e₂ : Date) → day_of y₁ m₁ d₁ ≡ Some e₁ → day_of y₂ m₂ d₂ ≡ Some e₂ → y₁ < y₂ → e₁.0 < e₂.0
calendar_year y₁ m₁ d₁ y₂ m₂ d₂ e₁ e₂ p q lt =
    let v = numbered y₁ m₁ d₁ e₁ p in let w = numbered y₂ m₂ d₂ e₂ q in omega arith

-- in one year the date of the earlier month has the smaller number
pub calendar_month : (y m₁ d₁ m₂ d₂ : ℕ) (e₁ e₂ : Date) → day_of y m₁ d₁ ≡ Some e₁ → day_of y m₂ d₂ ≡ Some e₂ → m₁ < m₂ → e₁.0 < e₂.0
calendar_month y m₁ d₁ m₂ d₂ e₁ e₂ p q lt =
    let v = numbered y m₁ d₁ e₁ p in let w = numbered y m₂ d₂ e₂ q in omega arith

-- in one month the date of the earlier day has the smaller number
pub calendar_day : (y m d₁ d₂ : ℕ) (e₁ e₂ : Date) → day_of y m d₁ ≡ Some e₁ → day_of y m d₂ ≡ Some e₂ → d₁ < d₂ → e₁.0 < e₂.0
calendar_day y m d₁ d₂ e₁ e₂ p q lt =
    let v = numbered y m d₁ e₁ p in let w = numbered y m d₂ e₂ q in omega arith

-- a date written as DDMMYY has at most six digits
pub ddmmyy_small : (d : Date) → ddmmyy d < 1000000
unfolding ddmmyy
ddmmyy_small d = omega arith

-- a date's number taken apart gives back its day, its month and its year
apart : (y m d : ℕ) → m < 100 → d < 100 → (date_number y m d % 100 ≡ d) × (date_number y m d / 100 % 100 ≡ m) × (date_number y m d / 10000 ≡ y)
apart y m d p q = omega arith

-- the digits of a date are its day, its month and the last two of its year
ddmmyy_parts : (y m d : ℕ) → m < 100 → d < 100 → ddmmyy (date (date_number y m d)) ≡ d * 10000 + m * 100 + y % 100
unfolding ddmmyy
ddmmyy_parts y m d p q = let w = apart y m d p q in λ i. w.0 i * 10000 + w.1 i * 100 + w.2 i % 100

-- a number's digits put together give the number
together : (n : ℕ) → n / 10000 * 10000 + n / 100 % 100 * 100 + (2000 + n % 100) % 100 ≡ n
together n = omega arith

-- a date read and written again is the same number
pub read_back : (n : ℕ) (d : Date) → read_day n ≡ Some d → ddmmyy d ≡ n
unfolding read_day
read_back n d q =
    let w = day_parts (2000 + n % 100) (n / 100 % 100) (n / 10000) d q in
    let p = parts (2000 + n % 100) (n / 100 % 100) (n / 10000) w.0 in
    ap ddmmyy w.1 ∙ ddmmyy_parts (2000 + n % 100) (n / 100 % 100) (n / 10000) (omega arith) (omega arith) ∙ together n

-- a date's DDMMYY reads as that date
pub written_day : (n : ℕ) (d : Date) → read_day n ≡ Some d → read_day (ddmmyy d) ≡ Some d
written_day n d q = ap read_day (read_back n d q) ∙ q

-- dates of the same number are the same
same : (a b : Date) → a.0 ≡ b.0 → a ≡ b
same a b e = λ i. date (e i)

-- an operation on dates is associative and commutative if it is so on their numbers
module _ (op : Date → Date → Date) (f : ℕ → ℕ → ℕ) (is : (a b : Date) → (op a b).0 ≡ f a.0 b.0) where
  assoc_by : ((x y z : ℕ) → f (f x y) z ≡ f x (f y z)) → (a b c : Date) → op (op a b) c ≡ op a (op b c)
  assoc_by h a b c =
      let left = is (op a b) c ∙ ap (λ n. f n c.0) (is a b) in
      let right = is a (op b c) ∙ ap (f a.0) (is b c) in
      same _ _ (left ∙ h a.0 b.0 c.0 ∙ sym right)

  comm_by : ((x y : ℕ) → f x y ≡ f y x) → (a b : Date) → op a b ≡ op b a
  comm_by h a b = same _ _ (is a b ∙ h a.0 b.0 ∙ sym (is b a))

-- the smaller of two numbers, where 0 stands for none
abbrev least : ℕ → ℕ → ℕ
least zero y = y
least (suc x) zero = suc x
least (suc x) (suc y) = suc (min x y)

-- the least of three numbers is the same in any grouping and order
least_assoc : (x y z : ℕ) → least (least x y) z ≡ least x (least y z)
least_assoc zero y z = refl
least_assoc (suc x) zero z = refl
least_assoc (suc x) (suc y) zero = refl
least_assoc (suc x) (suc y) (suc z) = let e : min (min x y) z ≡ min x (min y z) = omega arith in ap suc e

least_comm : (x y : ℕ) → least x y ≡ least y x
least_comm zero zero = refl
least_comm zero (suc y) = refl
least_comm (suc x) zero = refl
least_comm (suc x) (suc y) = ap suc (min_comm x y)

-- the earlier of two dates has the smaller number, of one and none that one's
earlier_least : (a b : Date) → (earlier a b).0 ≡ least a.0 b.0
unfolding earlier
earlier_least a b = on a.0 b.0
  where
    by_order : (x y : ℕ) (t : Bool) → ltb (suc y) (suc x) ≡ t → (if t then date (suc y) else date (suc x)).0 ≡ suc (min x y)
    by_order x y true e = let lt = ltb-true (suc y) (suc x) e in omega arith
    by_order x y false e = let le = ltb-false (suc y) (suc x) e in omega arith

    on : (x y : ℕ) → (earlier (date x) (date y)).0 ≡ least x y
    on zero y = refl
    on (suc x) zero = simp eqb-suc-zero
    on (suc x) (suc y) = simp eqb-suc-zero (by_order x y _ refl)

-- the later of two dates has the greater number
later_greatest : (a b : Date) → (later a b).0 ≡ max a.0 b.0
unfolding later
later_greatest a b = go (ltb a.0 b.0) refl
  where
    go : (t : Bool) → ltb a.0 b.0 ≡ t → (if t then b else a).0 ≡ max a.0 b.0
    go true e = let lt = ltb-true a.0 b.0 e in omega arith
    go false e = let le = ltb-false a.0 b.0 e in omega arith

-- the earliest of three dates is the same, whichever two are compared first
pub earlier_assoc : (a b c : Date) → earlier (earlier a b) c ≡ earlier a (earlier b c)
earlier_assoc = assoc_by earlier least earlier_least least_assoc

-- which of two dates is named first does not matter to the earlier
pub earlier_comm : (a b : Date) → earlier a b ≡ earlier b a
earlier_comm = comm_by earlier least earlier_least least_comm

-- of none and a date the earlier is the date
pub none_earlier : (a : Date) → earlier (date 0) a ≡ a
unfolding earlier
none_earlier a = refl

-- of a date and none the earlier is the date
pub earlier_none : (a : Date) → earlier a (date 0) ≡ a
earlier_none a = earlier_comm a (date 0) ∙ none_earlier a

-- the latest of three dates is the same, whichever two are compared first
pub later_assoc : (a b c : Date) → later (later a b) c ≡ later a (later b c)
later_assoc = assoc_by later max later_greatest (λ x y z. omega arith)

-- which of two dates is named first does not matter to the later
pub later_comm : (a b : Date) → later a b ≡ later b a
later_comm = comm_by later max later_greatest max_comm

-- of none and a date the later is the date
pub none_later : (a : Date) → later (date 0) a ≡ a
none_later a = same _ _ (later_greatest (date 0) a ∙ zero-max a.0)

-- of a date and none the later is the date
pub later_none : (a : Date) → later a (date 0) ≡ a
later_none a = later_comm a (date 0) ∙ none_later a
