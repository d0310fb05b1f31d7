-- The figures stay small: a sound record adds at most one to each count, and its sums stay within their limits.
-- Assumes nothing.
use Prim.Native.Nat.{ℕ, ◌+◌, ◌≤◌}
use mathlib.Core.Path.{◌≡◌, refl, ap}
use mathlib.Core.List.{List}
use mathlib.Core.Bool.{Bool, true, false}
use native.Mathlib.Omega.{arith}
use borrow.Author.Tests.{leb-true}
use lib.Dec.{eqb}
use Rattle.limits.specs.Limits.{most_records}
use Rattle.std.specs.Prelude.{if◌then◌else◌}
use Rattle.services.specs.declared.Service.{Service}
use Rattle.services.specs.declared.Service.TheVariants.{Autogiro, Remittance}
use Rattle.dates.specs.declared.Window.{Window}
use Rattle.figures.specs.Figures.{amount, within, limit_wide}
use Rattle.dates.specs.declared.Date.{Date}
use Rattle.figures.specs.Totals.{◌⊕◌, one_record, one_assignment, one_transaction, Room}
use Rattle.figures.specs.declared.amounts.Amount.{Amount}
use Rattle.figures.specs.declared.groups.Group.{Group}
use Rattle.figures.specs.declared.totals.Totals.{Totals}
use Rattle.layout.specs.Rows.{AllHold}
use Rattle.run_growth.specs.Bounds.{WithinWide, Bounded, Small}
use Rattle.rules.specs.Codes.{type_code}
use Rattle.rules.specs.Payments.{amount_in, date_in, limit_for}
use Rattle.rules.specs.Layouts.{table_for, record30, record50, amount50}
use Rattle.rules.specs.Growth.{after_for, grouped_as}
use Rattle.rules.specs.declared.Assignment.{Assignment}
use Rattle.rules.specs.declared.Kind.{Kind}
use Rattle.rules.specs.declared.Kind.TheVariants.{R10, R20, R30, R50, Other}
use Rattle.rules.specs.declared.State.{State}

-- a record more, or an assignment, or a transaction whose amount the sum takes
more_record : (k : ℕ) (t : Totals) → Bounded k t → Bounded (k + 1) (t ⊕ one_record)
more_record k t b = record { assignments = omega arith; transactions = omega arith; records = omega arith; sum = omega arith }

more_assignment : (k : ℕ) (t : Totals) → Bounded k t → Bounded (k + 1) (t ⊕ one_assignment)
more_assignment k t b = record { assignments = omega arith; transactions = omega arith; records = omega arith; sum = omega arith }

-- the sums that a sound record 30 and a sound record 50 keep to
pub record Paying (f : Totals) (a : Assignment) (x : Amount) : Type 0 where
  pub own : a.totals.totals.sum.0 + x.0 ≤ limit_wide.0
  pub file : f.sum.0 + x.0 ≤ limit_wide.0

pub wide_limit : (s : Service) → (limit_for s).0 ≤ limit_wide.0
wide_limit Autogiro = omega arith
wide_limit Remittance = omega arith

pub fits_limit : (sum more limit : Amount) → within sum more limit ≡ true → sum.0 + more.0 ≤ limit.0
unfolding within
fits_limit sum more limit h = leb-true (sum.0 + more.0) limit.0 h

pub pays : (f : Totals) (ks : List ℕ) (w : Window) (a : Assignment) (r : List ℕ) → AllHold f ks r (record30 w a r) → Paying f a (amount_in r)
unfolding AllHold
pays f ks w a r h =
    let own = fits_limit a.totals.totals.sum (amount_in r) (limit_for a.service) h.1.1.1.1.1.1.1.1.1.1.1.1.1.0 in
    record {
      own = omega (arith, own, wide_limit a.service);
      file = fits_limit f.sum (amount_in r) limit_wide h.1.1.1.1.1.1.1.1.1.1.1.1.1.1.0;
    }

more_paid : (k : ℕ) (f t : Totals) (a : Assignment) (r : List ℕ) → Bounded k t → t.sum.0 + (amount_in r).0 ≤ limit_wide.0 → Bounded (k + 1) (t ⊕ one_transaction (amount_in r) (date_in r))
more_paid k f t a r b h = record { assignments = omega arith; transactions = omega arith; records = omega arith; sum = h }

-- any window, where a record's rules ask for none
pub no_window : Window
no_window = record { latest = record { 0 = 0 }; earliest01 = record { 0 = 0 }; earliest04 = record { 0 = 0 } }

-- the sum that a sub-specification adds to
abbrev pub sum_of : ℕ → Group → Amount
sum_of t g = if eqb t 16 then g.specified else g.credited

pub specifies : (f : Totals) (ks : List ℕ) (a : Assignment) (r : List ℕ) → AllHold f ks r (record50 a r) → (sum_of (type_code r) a.group).0 + amount50 r ≤ limit_wide.0
unfolding AllHold
specifies f ks a r h = fits_limit (sum_of (type_code r) a.group) (amount (amount50 r)) limit_wide h.1.1.1.1.1.1.1.0

-- what a sum takes is itself within the limit
pub within_by : (s : ℕ) {x y l : ℕ} → x ≡ y → s + y ≤ l → x ≤ l
within_by s e h = omega arith

-- both sums of a group stay within the limit
both_within : (t x : ℕ) (g : Group) → WithinWide g.specified → WithinWide g.credited → (sum_of t g).0 + x ≤ limit_wide.0
    → WithinWide (grouped_as t (amount x) g).specified × WithinWide (grouped_as t (amount x) g).credited
both_within t x g p q h = go (eqb t 16) refl
  where
    go : (b : Bool) → eqb t 16 ≡ b → WithinWide (grouped_as t (amount x) g).specified × WithinWide (grouped_as t (amount x) g).credited
    go true e = rw e (rw e at h, q)
    go false e = rw e (p, rw e at h)

pub small_next : (k : ℕ) (kind : Kind) (w : Window) (st : State) (ks r : List ℕ) → Small k st → AllHold st.file ks r (table_for kind w st.assignment r) → Small (k + 1) (after_for kind st r)
small_next k R10 w st ks r s h =
    record { file = more_record k st.file s.file; assignment = record { assignments = omega arith; transactions = omega arith; records = omega arith; sum = omega arith }; specified = omega arith; credited = omega arith }
small_next k R20 w st ks r s h =
    record { file = more_assignment k st.file s.file; assignment = record { assignments = omega arith; transactions = omega arith; records = omega arith; sum = omega arith }; specified = omega arith; credited = omega arith }
small_next k R30 w st ks r s h =
    let p = pays st.file ks w st.assignment r h in
    record { file = more_paid k st.file st.file st.assignment r s.file p.file; assignment = more_paid k st.file st.assignment.totals.totals st.assignment r s.assignment p.own; specified = omega arith; credited = omega arith }
small_next k R50 w st ks r s h =
    let g = both_within (type_code r) (amount50 r) st.assignment.group s.specified s.credited (specifies st.file ks st.assignment r h) in
    record { file = more_record k st.file s.file; assignment = more_record k st.assignment.totals.totals s.assignment; specified = g.0; credited = g.1 }
small_next k Other w st ks r s h =
    record { file = more_record k st.file s.file; assignment = record { assignments = omega arith; transactions = omega arith; records = omega arith; sum = omega arith }; specified = s.specified; credited = s.credited }
small_next k kind w st ks r s h =
    record { file = more_record k st.file s.file; assignment = more_record k st.assignment.totals.totals s.assignment; specified = s.specified; credited = s.credited }

-- the file has room for a transaction whose amount its sum takes
pub room_for : (st : State) (x : Amount) (d : Date) → Small most_records st → {y : Amount} → x ≡ y → Paying st.file st.assignment y → Room st.file (one_transaction x d)
room_for st x d s {y} e p =
    let q : x.0 ≡ y.0 = ap (λ (z : Amount). z.0) e in
    record { assignments = omega (arith, s.file.assignments); transactions = omega (arith, s.file.transactions); records = omega (arith, s.file.records); sum = omega (arith, q, p.file) }
