-- The frame: records that meet the rules in one file meet them in every file in which what they add fits, and what met them did fit.
-- Assumes nothing.
use Prim.Native.Nat.{ℕ, ◌+◌, ◌≤◌}
use mathlib.Core.Path.{◌≡◌, refl, sym, ap, subst, ◌∙◌}
use mathlib.Core.List.{List, [], ◌∷◌, ◌++◌, append-nil}
use mathlib.Core.Bool.{Bool, true, false, not}
use native.Mathlib.Omega.{arith}
use borrow.Author.Tests.{leb-true, le-leb, ltb-true, lt-ltb, not-true}
use lib.Dec.{eqb}
use Rattle.dates.specs.declared.Window.{Window}
use Rattle.figures.specs.Figures.{within, limit_wide}
use Rattle.figures.specs.Totals.{◌⊕◌}
use Rattle.figures.specs.declared.amounts.Amount.{Amount}
use Rattle.figures.specs.declared.totals.Totals.{Totals}
use Rattle.limits.specs.Limits.{most_assignments}
use Rattle.layout.specs.Rows.{Row, at, must, file, holds, member, AllHold}
use Rattle.rules.specs.Codes.{kind_of, key_in, service_code}
use Rattle.rules.specs.Fields.{message_of}
use Rattle.rules.specs.Payments.{amount_in}
use Rattle.rules.specs.Layouts.{notification49, message49, table_for, rows, notification_by}
use Rattle.rules.specs.Growth.{gain_for, gain, turn, keys_for, keys, all_keys}
use Rattle.rules.specs.declared.Assignment.{Assignment}
use Rattle.rules.specs.declared.Kind.{Kind}
use Rattle.rules.specs.declared.Kind.TheVariants.{R10, R20, R30, R31, R40, R41, R49, R50, R88, R89, Other}
use Rattle.rules.specs.declared.Mode.{Mode}
use Rattle.laws.specs.Meets.{gains, Meets}
use Rattle.laws.specs.Fits.{Fresh, Fits, NoEnd}

-- the rows of a table that ask something of the file
abbrev pub Asked : Totals → List ℕ → List Row → Type 0
Asked f ks [] = Unit {0}
Asked f ks (at n a e x ∷ ws) = Asked f ks ws
Asked f ks (must t n d ∷ ws) = Asked f ks ws
Asked f ks (file t n d ∷ ws) = (holds f ks t ≡ true) × Asked f ks ws

-- every other row looks at the record, its assignment and the process day alone
pub transfer : (f f' : Totals) (ks ks' r : List ℕ) (ws : List Row) → AllHold f ks r ws → Asked f' ks' ws → AllHold f' ks' r ws
unfolding AllHold
transfer f f' ks ks' r [] h d = tt
transfer f f' ks ks' r (at n a e x ∷ ws) h d = (h.0, transfer f f' ks ks' r ws h.1 d)
transfer f f' ks ks' r (must t n k ∷ ws) h d = (h.0, transfer f f' ks ks' r ws h.1 d)
transfer f f' ks ks' r (file t n k ∷ ws) h d = (d.0, transfer f f' ks ks' r ws h.1 d.1)

-- a sum that takes an amount, both ways
takes_it : (sum more : Amount) → sum.0 + more.0 ≤ limit_wide.0 → within sum more limit_wide ≡ true
unfolding within
takes_it sum more h = le-leb (sum.0 + more.0) limit_wide.0 h

took_it : (sum more : Amount) → within sum more limit_wide ≡ true → sum.0 + more.0 ≤ limit_wide.0
unfolding within
took_it sum more h = leb-true (sum.0 + more.0) limit_wide.0 h

-- a notification code asks nothing of the file
noted : (f : Totals) (ks : List ℕ) (s : ℕ) (ws : List Row) → Asked f ks ws → Asked f ks (notification49 s ++ ws)
unfolding notification49
noted f ks s ws h = go (eqb s 4)
  where
    go : (b : Bool) → Asked f ks (notification_by b ++ ws)
    go true = h
    go false = h

-- what fits meets what its first record asks
pub asked : (k : Kind) (w : Window) (a : Assignment) (r : List ℕ) (f : Totals) (ks : List ℕ) (g : Totals) (l : List ℕ) → (k ≡ R89 → ⊥)
    → Fits f ks (gain_for k r ⊕ g) (keys_for k r ++ l) → Asked f ks (table_for k w a r)
unfolding Fresh
asked R10 w a r f ks g l e fit = tt
asked R20 w a r f ks g l e fit = (lt-ltb f.assignments.0 most_assignments (omega (arith, fit.rooms)), (ap not fit.news.0, tt))
asked R30 w a r f ks g l e fit = (takes_it f.sum (amount_in r) (omega (arith, fit.sums)), tt)
asked R31 w a r f ks g l e fit = tt
asked R40 w a r f ks g l e fit = tt
asked R41 w a r f ks g l e fit = tt
asked R49 w a r f ks g l e fit = noted f ks (service_code r) (message49 (message_of (service_code r)) a.places r) tt
asked R50 w a r f ks g l e fit = tt
asked R88 w a r f ks g l e fit = tt
asked R89 w a r f ks g l e fit = absurd (e refl)
asked Other w a r f ks g l e fit = tt

-- a record's keys move from what comes to what was, and back
fresh_on : (k : Kind) (r ks l : List ℕ) → Fresh ks (keys_for k r ++ l) → Fresh (ks ++ keys_for k r) l
unfolding Fresh
fresh_on R10 r ks l h = rw append-nil h
fresh_on R20 r ks l h = h.1
fresh_on R30 r ks l h = rw append-nil h
fresh_on R31 r ks l h = rw append-nil h
fresh_on R40 r ks l h = rw append-nil h
fresh_on R41 r ks l h = rw append-nil h
fresh_on R49 r ks l h = rw append-nil h
fresh_on R50 r ks l h = rw append-nil h
fresh_on R88 r ks l h = rw append-nil h
fresh_on R89 r ks l h = rw append-nil h
fresh_on Other r ks l h = rw append-nil h

pub fits_on : (k : Kind) (r : List ℕ) (f : Totals) (ks : List ℕ) (g : Totals) (l : List ℕ) → Fits f ks (gain_for k r ⊕ g) (keys_for k r ++ l) → Fits (f ⊕ gain_for k r) (ks ++ keys_for k r) g l
fits_on k r f ks g l fit = record { sums = omega (arith, fit.sums); rooms = omega (arith, fit.rooms); news = fresh_on k r ks l fit.news }

-- THE FRAME
pub frame : (m : Mode) (w : Window) (f f' : Totals) (ks ks' : List ℕ) (a : Assignment) (rs : List (List ℕ)) → NoEnd rs → Fits f' ks' (gains rs) (all_keys rs)
    → Meets m w f ks a rs → Meets m w f' ks' a rs
unfolding Meets NoEnd gains all_keys
frame m w f f' ks ks' a [] n fit h = tt
frame m w f f' ks ks' a (r ∷ rs) n fit h = (
  transfer f f' ks ks' r (rows m w a r) h.0 (asked (kind_of r) w a r f' ks' (gains rs) (all_keys rs) n.0 fit),
  frame m w (f ⊕ gain r) (f' ⊕ gain r) (ks ++ keys r) (ks' ++ keys r) (turn r a) rs n.1 (fits_on (kind_of r) r f' ks' (gains rs) (all_keys rs) fit) h.1,
)

-- what a record asked of the file, it was given
pub record Given (f : Totals) (k : Kind) (r ks : List ℕ) : Type 0 where
  pub sum : f.sum.0 ≤ limit_wide.0 → f.sum.0 + (gain_for k r).sum.0 ≤ limit_wide.0
  pub room : f.assignments.0 ≤ most_assignments → f.assignments.0 + (gain_for k r).assignments.0 ≤ most_assignments
  pub news : (l : List ℕ) → Fresh (ks ++ keys_for k r) l → Fresh ks (keys_for k r ++ l)

-- a record that asks nothing of the file adds nothing that could be too much
free : (f : Totals) (k : Kind) (r ks : List ℕ) → (gain_for k r).sum.0 ≡ 0 → (gain_for k r).assignments.0 ≡ 0 → keys_for k r ≡ [] → Given f k r ks
free f k r ks s a e =
    record {
      sum = λ h. omega (arith, s, h);
      room = λ h. omega (arith, a, h);
      news = λ l h. subst (λ (x : List ℕ). Fresh ks (x ++ l)) (sym e) (subst (λ (x : List ℕ). Fresh x l) (ap (λ (y : List ℕ). ks ++ y) e ∙ append-nil ks) h);
    }

given : (k : Kind) (w : Window) (a : Assignment) (r : List ℕ) (f : Totals) (ks : List ℕ) → AllHold f ks r (table_for k w a r) → Given f k r ks
unfolding AllHold Fresh
given R10 w a r f ks h = free f R10 r ks refl refl refl
given R20 w a r f ks h =
    record {
      sum = λ p. omega (arith, p);
      room = λ p. omega (arith, ltb-true f.assignments.0 most_assignments h.0);
      news = λ l p. (not-true (member (key_in r) ks) h.1.1.1.1.1.1.1.0, p);
    }
given R30 w a r f ks h =
    record {
      sum = λ p. took_it f.sum (amount_in r) h.1.1.1.1.1.1.1.1.1.1.1.1.1.1.0;
      room = λ p. omega (arith, p);
      news = λ l p. rw append-nil at p;
    }
given R31 w a r f ks h = free f R31 r ks refl refl refl
given R40 w a r f ks h = free f R40 r ks refl refl refl
given R41 w a r f ks h = free f R41 r ks refl refl refl
given R49 w a r f ks h = free f R49 r ks refl refl refl
given R50 w a r f ks h = free f R50 r ks refl refl refl
given R88 w a r f ks h = free f R88 r ks refl refl refl
given R89 w a r f ks h = free f R89 r ks refl refl refl
given Other w a r f ks h = free f Other r ks refl refl refl

-- what met the rules did fit
pub fitted : (m : Mode) (w : Window) (f : Totals) (ks : List ℕ) (a : Assignment) (rs : List (List ℕ)) → f.sum.0 ≤ limit_wide.0 → f.assignments.0 ≤ most_assignments
    → Meets m w f ks a rs → Fits f ks (gains rs) (all_keys rs)
unfolding Meets gains all_keys Fresh AllHold
fitted m w f ks a [] p q h = record { sums = omega (arith, p); rooms = omega (arith, q); news = tt }
fitted m w f ks a (r ∷ rs) p q h =
    let v = given (kind_of r) w a r f ks h.0.1.1 in
    let rest = fitted m w (f ⊕ gain r) (ks ++ keys r) (turn r a) rs (v.sum p) (v.room q) h.1 in
    record { sums = omega (arith, rest.sums); rooms = omega (arith, rest.rooms); news = v.news (all_keys rs) rest.news }
