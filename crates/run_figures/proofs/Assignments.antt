-- The figures of assignments one behind the other: how many, what they give together, and that each is small.
-- Assumes nothing.
use Prim.Native.Nat.{ℕ, ◌+◌, ◌≤◌}
use mathlib.Core.Path.{◌≡◌, refl, sym, ap, subst, ◌∙◌}
use mathlib.Core.List.{List, [], ◌∷◌, ◌++◌, append_assoc}
use mathlib.Core.Bool.{Bool, true, false, ◌||◌}
use native.Mathlib.Omega.{arith}
use lib.Dec.{eqb, ltb}
use lib.ListN.{length}
use Rattle.std.specs.Prelude.{if◌then◌else◌, Option, Some, None}
use Rattle.fields.specs.Bytes.{every, part}
use Rattle.fields.specs.Numbers.{value}
use Rattle.dates.specs.Dates.{date, read_day, earlier, later}
use Rattle.dates.specs.declared.Date.{Date}
use Rattle.dates.specs.declared.Window.{Window}
use Rattle.dates.proofs.Laws.{day_range}
use Rattle.figures.specs.Figures.{limit_wide, Fits}
use Rattle.figures.specs.Totals.{none, ◌⊕◌, one_record, one_assignment}
use Rattle.figures.specs.declared.totals.Totals.{Totals}
use Rattle.figures.specs.declared.totals.AssignmentTotals.{AssignmentTotals}
use Rattle.figures.proofs.Laws.{⊕-assoc}
use Rattle.run_growth.specs.Bounds.{Bounded}
use Rattle.limits.specs.Limits.{most_records, most_assignments}
use Rattle.layout.specs.Rows.{member, AllHold}
use Rattle.laws.specs.Meets.{Meets}
use Rattle.laws.proofs.Follows.{Test, everywhere, always, implies, mp, known}
use Rattle.laws.proofs.Types.{type_by, last_is}
use Rattle.laws.proofs.Frame.{fitted}
use Rattle.laws.proofs.Closes.{below_behind}
use Rattle.laws.proofs.EndsPut.{gains_records}
use Rattle.services.specs.Services.{service_for}
use Rattle.rules.specs.Codes.{service_code, kind_for, kind_of, number_of_kind}
use Rattle.rules.specs.Growth.{gain_for, gain, gains, turn_for, turn, keys, start, opened}
use Rattle.rules.specs.Order.{may_follow}
use Rattle.rules.specs.Payments.{the_date, date_in}
use Rattle.rules.specs.declared.Assignment.{Assignment}
use Rattle.rules.specs.declared.Kind.{Kind}
use Rattle.rules.specs.declared.Kind.TheVariants.{R10, R20, R30, R31, R40, R41, R49, R50, R88, R89, Other}
use Rattle.rules.specs.declared.Mode.{Mode}
use Rattle.rules.specs.declared.Mode.TheVariants.{File, Draft}
use Rattle.run_figures.specs.Blocks.{done_for, done, blocks, figures_from}
use Rattle.run_figures.proofs.Blocks.{blocks_open}
use Rattle.run_figures.proofs.Held.{AllSmall, total_of}

-- ---- dates
pick_fits : (c : Bool) (a b : Date) → Fits 32 a.0 → Fits 32 b.0 → Fits 32 (if c then a else b).0
pick_fits true a b f g = f
pick_fits false a b f g = g

earlier_fits : (a b : Date) → Fits 32 a.0 → Fits 32 b.0 → Fits 32 (earlier a b).0
unfolding earlier
earlier_fits a b f g =
    pick_fits (eqb a.0 0) b (if eqb b.0 0 then a else (if ltb b.0 a.0 then b else a)) g
    (pick_fits (eqb b.0 0) a (if ltb b.0 a.0 then b else a) f (pick_fits (ltb b.0 a.0) b a g f))

later_fits : (a b : Date) → Fits 32 a.0 → Fits 32 b.0 → Fits 32 (later a b).0
unfolding later
later_fits a b f g = pick_fits (ltb a.0 b.0) b a g f

none_fits : Fits 32 0
none_fits = omega arith

date_fits : (r : List ℕ) → Fits 32 (date_in r).0
unfolding read_day
date_fits r = go (read_day (value (part 16 21 r))) refl
  where
    go : (d : Option Date) → read_day (value (part 16 21 r)) ≡ d → Fits 32 (the_date d).0
    go (Some d) e = let x = (day_range _ _ _ d e).1 in omega (arith, x)
    go None e = omega arith

-- an assignment's dates fit, whatever record comes
pub record Dated (t : AssignmentTotals) : Type 0 where
  pub first : Fits 32 t.totals.first.0
  pub last : Fits 32 t.last.0

passed_dated : (t : AssignmentTotals) → Dated t → Dated record { totals = t.totals ⊕ one_record; last = later t.last (date 0) }
passed_dated t d = record { first = earlier_fits t.totals.first (date 0) d.first none_fits; last = later_fits t.last (date 0) d.last none_fits }

turn_dated : (k : Kind) (r : List ℕ) (a : Assignment) → Dated a.totals → Dated (turn_for k r a).totals
turn_dated R10 r a d = record { first = none_fits; last = none_fits }
turn_dated R20 r a d = record { first = none_fits; last = none_fits }
turn_dated R30 r a d =
    record { first = earlier_fits a.totals.totals.first (date_in r) d.first (date_fits r); last = later_fits a.totals.last (date_in r) d.last (date_fits r) }
turn_dated R31 r a d = passed_dated a.totals d
turn_dated R40 r a d = passed_dated a.totals d
turn_dated R41 r a d = passed_dated a.totals d
turn_dated R49 r a d = passed_dated a.totals d
turn_dated R50 r a d = passed_dated a.totals d
turn_dated R88 r a d = passed_dated a.totals d
turn_dated R89 r a d = passed_dated a.totals d
turn_dated Other r a d = d

-- ---- records of assignments: no 10, and none without a type
pub record Listed (r : List ℕ) : Type 0 where
  pub no_head : kind_of r ≡ R10 → ⊥
  pub typed : kind_of r ≡ Other → ⊥

unfoldable pub AllListed : List (List ℕ) → Type 0
AllListed [] = Unit {0}
AllListed (r ∷ rs) = Listed r × AllListed rs

pub listed_join : (x y : List (List ℕ)) → AllListed x → AllListed y → AllListed (x ++ y)
unfolding AllListed
listed_join [] y p q = q
listed_join (r ∷ x) y p q = (p.0, listed_join x y p.1 q)

-- a 10 stands only before everything
head_test : Test
head_test b l k may = implies (may File R10 || may Draft R10) (eqb (number_of_kind l) 0)

head_everywhere : everywhere head_test ≡ true
unfolding every kind_for member head_test
head_everywhere = refl

or_second : (x y : Bool) → y ≡ true → x || y ≡ true
or_second true y h = refl
or_second false y h = h

head_first : (m : Mode) (a : Assignment) → may_follow m a R10 ≡ true → a.last ≡ Other
unfolding head_test kind_for
head_first m a h = type_by a.last 0 (mp _ _ (always head_test head_everywhere true a R10) (either m h))
  where
    either : (m : Mode) → may_follow m a R10 ≡ true → may_follow File a R10 || may_follow Draft a R10 ≡ true
    either File h = rw h
    either Draft h = or_second (may_follow File a R10) (may_follow Draft a R10) h

pub all_listed : (m : Mode) (w : Window) (f : Totals) (ks : List ℕ) (a : Assignment) (rs : List (List ℕ)) → (a.last ≡ Other → ⊥) → Meets m w f ks a rs → AllListed rs
unfolding Meets AllListed AllHold
all_listed m w f ks a [] n h = tt
all_listed m w f ks a (r ∷ rs) n h =
    let p = h.0.1.0 in
    let t = known m a (kind_of r) p in (
      record { no_head = λ e. n (head_first m a (subst (λ (k : Kind). may_follow m a k ≡ true) e p)); typed = t },
      all_listed m w (f ⊕ gain r) (ks ++ keys r) (turn r a) rs (λ e. t (sym (last_is (kind_of r) r a t) ∙ e)) h.1,
    )

-- ---- how many, and what they give together
one_turned : (k : Kind) (r : List ℕ) (a : Assignment) → (k ≡ R10 → ⊥) → a.totals.totals.assignments.0 ≡ 1 → (turn_for k r a).totals.totals.assignments.0 ≡ 1
one_turned R10 r a n e = absurd (n refl)
one_turned R20 r a n e = refl
one_turned R30 r a n e = omega (arith, e)
one_turned R31 r a n e = omega (arith, e)
one_turned R40 r a n e = omega (arith, e)
one_turned R41 r a n e = omega (arith, e)
one_turned R49 r a n e = omega (arith, e)
one_turned R50 r a n e = omega (arith, e)
one_turned R88 r a n e = omega (arith, e)
one_turned R89 r a n e = omega (arith, e)
one_turned Other r a n e = e

counted_next : (k : Kind) (r : List ℕ) (t : AssignmentTotals) (ts : List AssignmentTotals) (x : Totals) → length ts ≡ 1 + x.assignments.0 → length (done_for k t ++ ts) ≡ 1 + (gain_for k r ⊕ x).assignments.0
counted_next R10 r t ts x e = omega (arith, e)
counted_next R20 r t ts x e = omega (arith, e)
counted_next R30 r t ts x e = omega (arith, e)
counted_next R31 r t ts x e = omega (arith, e)
counted_next R40 r t ts x e = omega (arith, e)
counted_next R41 r t ts x e = omega (arith, e)
counted_next R49 r t ts x e = omega (arith, e)
counted_next R50 r t ts x e = omega (arith, e)
counted_next R88 r t ts x e = omega (arith, e)
counted_next R89 r t ts x e = omega (arith, e)
counted_next Other r t ts x e = omega (arith, e)

total_next : (k : Kind) (r : List ℕ) (a : Assignment) → (k ≡ R10 → ⊥) → (k ≡ Other → ⊥) → (ts : List AssignmentTotals) (x : Totals) → total_of ts ≡ (turn_for k r a).totals.totals ⊕ x
    → total_of (done_for k a.totals ++ ts) ≡ a.totals.totals ⊕ (gain_for k r ⊕ x)
unfolding total_of
total_next R10 r a n o ts x e = absurd (n refl)
total_next R20 r a n o ts x e = ap (λ (y : Totals). a.totals.totals ⊕ y) e
total_next R30 r a n o ts x e = e ∙ ⊕-assoc a.totals.totals (gain_for R30 r) x
total_next R31 r a n o ts x e = e ∙ ⊕-assoc a.totals.totals one_record x
total_next R40 r a n o ts x e = e ∙ ⊕-assoc a.totals.totals one_record x
total_next R41 r a n o ts x e = e ∙ ⊕-assoc a.totals.totals one_record x
total_next R49 r a n o ts x e = e ∙ ⊕-assoc a.totals.totals one_record x
total_next R50 r a n o ts x e = e ∙ ⊕-assoc a.totals.totals one_record x
total_next R88 r a n o ts x e = e ∙ ⊕-assoc a.totals.totals one_record x
total_next R89 r a n o ts x e = e ∙ ⊕-assoc a.totals.totals one_record x
total_next Other r a n o ts x e = absurd (o refl)

-- one assignment's figures, and dates that fit
pub record One (t : AssignmentTotals) : Type 0 where
  pub single : t.totals.assignments.0 ≡ 1
  pub dates : Dated t

unfoldable pub AllOne : List AssignmentTotals → Type 0
AllOne [] = Unit {0}
AllOne (t ∷ ts) = One t × AllOne ts

done_one : (k : Kind) (t : AssignmentTotals) (ts : List AssignmentTotals) → One t → AllOne ts → AllOne (done_for k t ++ ts)
unfolding AllOne
done_one R10 t ts o h = h
done_one R20 t ts o h = (o, h)
done_one R30 t ts o h = h
done_one R31 t ts o h = h
done_one R40 t ts o h = h
done_one R41 t ts o h = h
done_one R49 t ts o h = h
done_one R50 t ts o h = h
done_one R88 t ts o h = h
done_one R89 t ts o h = h
done_one Other t ts o h = h

record Blocks (a : Assignment) (rs : List (List ℕ)) : Type 0 where
  many : length (blocks a rs) ≡ 1 + (gains rs).assignments.0
  total : total_of (blocks a rs) ≡ a.totals.totals ⊕ gains rs
  each : AllOne (blocks a rs)

blocks_of : (a : Assignment) (rs : List (List ℕ)) → AllListed rs → One a.totals → Blocks a rs
unfolding blocks gains total_of AllOne AllListed
blocks_of a [] h o = record { many = refl; total = refl; each = (o, tt) }
blocks_of a (r ∷ rs) h o =
    let v = blocks_of (turn r a) rs h.1 (record { single = one_turned (kind_of r) r a h.0.no_head o.single; dates = turn_dated (kind_of r) r a o.dates }) in
    record {
      many = counted_next (kind_of r) r a.totals (blocks (turn r a) rs) (gains rs) v.many;
      total = total_next (kind_of r) r a h.0.no_head h.0.typed (blocks (turn r a) rs) (gains rs) v.total;
      each = done_one (kind_of r) a.totals (blocks (turn r a) rs) o v.each;
    }

-- figures that are bounded together are bounded each
smalls : (ts : List AssignmentTotals) → AllOne ts → Bounded most_records (total_of ts) → AllSmall ts
unfolding AllOne AllSmall total_of
smalls [] o b = tt
smalls (t ∷ ts) o b = (
  record {
    single = o.0.single;
    bounded = record { assignments = omega (arith, b.assignments); transactions = omega (arith, b.transactions); records = omega (arith, b.records); sum = omega (arith, b.sum) };
    first = o.0.dates.first;
    last = o.0.dates.last;
  },
  smalls ts o.1 record { assignments = omega (arith, b.assignments); transactions = omega (arith, b.transactions); records = omega (arith, b.records); sum = omega (arith, b.sum) },
)

-- records that meet the rules add up to figures that are bounded
pub gains_bounded : (m : Mode) (w : Window) (f : Totals) (ks : List ℕ) (a : Assignment) (rs : List (List ℕ)) → f.sum.0 ≤ limit_wide.0 → f.assignments.0 ≤ most_assignments → length rs ≤ most_records
    → Meets m w f ks a rs → Bounded most_records (gains rs)
gains_bounded m w f ks a rs p q few h =
    let v = fitted m w f ks a rs p q h in
    let n = gains_records rs in
    let b = (below_behind start.assignment none rs (omega arith)).counted in
    record { assignments = omega (arith, v.rooms); transactions = omega (arith, b, n); records = omega (arith, n); sum = omega (arith, v.sums) }

-- ---- records that begin with a 20
module _ (r : List ℕ) (rs : List (List ℕ)) (k : kind_of r ≡ R20) where
  pub record Figures : Type 0 where
    pub many : length (figures_from (r ∷ rs)) ≡ (gains (r ∷ rs)).assignments.0
    pub total : total_of (figures_from (r ∷ rs)) ≡ gains (r ∷ rs)
    pub small : Bounded most_records (gains (r ∷ rs)) → AllSmall (figures_from (r ∷ rs))

  pub figures_of_lem : AllListed (r ∷ rs) → Figures
  unfolding figures_from gains AllListed
  figures_of_lem h =
      let v = blocks_of (opened (service_for (service_code r))) rs h.1 (record { single = refl; dates = record { first = none_fits; last = none_fits } }) in
      let g : one_assignment ⊕ gains rs ≡ gain r ⊕ gains rs = ap (λ (x : Kind). gain_for x r ⊕ gains rs) (sym k) in
      let t = v.total ∙ g in
      record {
        many = v.many ∙ ap (λ (x : Totals). x.assignments.0) g;
        total = t;
        small = λ b. smalls _ v.each (subst (Bounded most_records) (sym t) b);
      }

-- one behind the other
blocks_cut : (a : Assignment) (x : List (List ℕ)) (s : List ℕ) (y : List (List ℕ)) → kind_of s ≡ R20 → blocks a (x ++ (s ∷ y)) ≡ blocks a x ++ figures_from (s ∷ y)
unfolding blocks
blocks_cut a [] s y e = blocks_open a s y e
blocks_cut a (r ∷ x) s y e =
    ap (λ (l : List AssignmentTotals). done r a.totals ++ l) (blocks_cut (turn r a) x s y e) ∙ sym (append_assoc (done r a.totals) (blocks (turn r a) x) (figures_from (s ∷ y)))

pub figures_cut : (r : List ℕ) (x : List (List ℕ)) (s : List ℕ) (y : List (List ℕ)) → kind_of s ≡ R20 → figures_from (r ∷ (x ++ (s ∷ y))) ≡ figures_from (r ∷ x) ++ figures_from (s ∷ y)
unfolding figures_from
figures_cut r x s y e = blocks_cut (opened (service_for (service_code r))) x s y e
