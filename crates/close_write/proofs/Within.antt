-- What a sound record within an assignment of a draft has, and what it adds.
-- Assumes nothing.
use Prim.Native.Nat.{ℕ}
use mathlib.Core.Path.{◌≡◌, refl, sym, ap, ◌∙◌}
use mathlib.Core.List.{List}
use mathlib.Core.Bool.{Bool, true, false, not, ◌&&◌, ◌||◌, true≢false, false≢true}
use borrow.Author.Tests.{eq-eqb}
use lib.Dec.{eqb}
use Rattle.dates.specs.declared.Window.{Window}
use Rattle.figures.specs.Totals.{◌⊞◌}
use Rattle.figures.specs.declared.totals.Totals.{Totals}
use Rattle.laws.proofs.Types.{code_is}
use Rattle.layout.specs.Rows.{AllHold}
use Rattle.run_order.proofs.Each.{each_bool, of_bool, each_kind, of_kind}
use Rattle.run_order.proofs.Follow.{choice, choice_is}
use Rattle.run_order.specs.Whole.{is_remittance}
use Rattle.rules.specs.Codes.{record_code, kind_for, kind_of, number_of_kind}
use Rattle.rules.specs.Layouts.{rows}
use Rattle.rules.specs.Growth.{gain_for, turn_for}
use Rattle.rules.specs.Order.{may_follow}
use Rattle.rules.specs.declared.Assignment.{Assignment}
use Rattle.rules.specs.declared.Kind.{Kind}
use Rattle.rules.specs.declared.Kind.TheVariants.{R10, R20, R30, R31, R40, R41, R49, R50, R88, R89, Other}
use Rattle.rules.specs.declared.Mode.TheVariants.{Draft}
use Rattle.run_loop.proofs.Keys.{twenty_code}
use Rattle.close_write.specs.Block.{brought}

-- behind a record of these types an assignment is under way
abbrev pub under : Kind → Bool
under R10 = false
under R20 = true
under R30 = true
under R31 = true
under R40 = true
under R41 = true
under R49 = true
under R50 = true
under R88 = false
under R89 = false
under Other = false

-- the types of the records within
abbrev pub within : Kind → Bool
within R10 = false
within R20 = false
within R30 = true
within R31 = true
within R40 = true
within R41 = true
within R49 = true
within R50 = true
within R88 = false
within R89 = false
within Other = false

abbrev is_twenty : Kind → Bool
is_twenty R10 = false
is_twenty R20 = true
is_twenty R30 = false
is_twenty R31 = false
is_twenty R40 = false
is_twenty R41 = false
is_twenty R49 = false
is_twenty R50 = false
is_twenty R88 = false
is_twenty R89 = false
is_twenty Other = false

-- what may come in a draft while an assignment is under way is one of those, or the next 20: one computed test
fits : Kind → Kind → Bool → Bool → Bool → Bool → Bool
fits k l rem x y z = not (under l && choice Draft k (number_of_kind l) rem x y z) || (is_twenty k || within k)

abbrev every_type : Kind → Kind → Bool
every_type k l = each_bool (λ rem. each_bool (λ x. each_bool (λ y. each_bool (λ z. fits k l rem x y z))))

everywhere : each_kind (λ k. each_kind (λ l. every_type k l)) ≡ true
unfolding fits
everywhere = refl

fits_all : (k l : Kind) (rem x y z : Bool) → fits k l rem x y z ≡ true
fits_all k l rem x y z =
    of_bool (λ z. fits k l rem x y z) (of_bool (λ y. each_bool (λ z. fits k l rem x y z)) (of_bool (λ x. each_bool (λ y. each_bool (λ z. fits k l rem x y z))) (of_bool (λ rem. each_bool (λ x. each_bool (λ y. each_bool (λ z. fits k l rem x y z)))) (of_kind (λ l. every_type k l) (of_kind (λ k. each_kind (λ l. every_type k l)) everywhere k) l) rem) x) y) z

then_within : (u c t v : Bool) → u ≡ true → c ≡ true → t ≡ false → not (u && c) || (t || v) ≡ true → v ≡ true
then_within u c t v hu hc ht h = rw (hu, hc, ht) at h

not_twenty : (k : Kind) → (k ≡ R20 → ⊥) → is_twenty k ≡ false
not_twenty R10 n = refl
not_twenty R20 n = absurd (n refl)
not_twenty R30 n = refl
not_twenty R31 n = refl
not_twenty R40 n = refl
not_twenty R41 n = refl
not_twenty R49 n = refl
not_twenty R50 n = refl
not_twenty R88 n = refl
not_twenty R89 n = refl
not_twenty Other n = refl

comes_within : (a : Assignment) (k : Kind) → under a.last ≡ true → (k ≡ R20 → ⊥) → may_follow Draft a k ≡ true → within k ≡ true
unfolding fits
comes_within a k u n h = then_within _ _ _ _ u (choice_is Draft a k ∙ h) (not_twenty k n) (fits_all k a.last (is_remittance a.service) (eqb a.code 3) (eqb a.code 4) (eqb a.code 16))

not_other : (k : Kind) → within k ≡ true → k ≡ Other → ⊥
not_other k w e = false≢true (ap within (sym e) ∙ w)

pub not_opening : (n : ℕ) → eqb n 20 ≡ false → kind_for n ≡ R20 → ⊥
not_opening n h e = true≢false (sym (eq-eqb n 20 (twenty_code n e)) ∙ h)

-- what a record within adds to its assignment, and to the file
pub record GrowsBy (k : Kind) (r : List ℕ) (a : Assignment) : Type 0 where
  pub totals : (turn_for k r a).totals ≡ a.totals ⊞ brought r
  pub service : (turn_for k r a).service ≡ a.service
  pub under : under (turn_for k r a).last ≡ true
  pub file : gain_for k r ≡ (brought r).totals

grows_by : (k : Kind) (r : List ℕ) (a : Assignment) → within k ≡ true → record_code r ≡ number_of_kind k → GrowsBy k r a
unfolding brought
grows_by R10 r a w e = absurd (false≢true w)
grows_by R20 r a w e = absurd (false≢true w)
grows_by R30 r a w e = record { totals = rw e; service = refl; under = refl; file = rw e }
grows_by R31 r a w e = record { totals = rw e; service = refl; under = refl; file = rw e }
grows_by R40 r a w e = record { totals = rw e; service = refl; under = refl; file = rw e }
grows_by R41 r a w e = record { totals = rw e; service = refl; under = refl; file = rw e }
grows_by R49 r a w e = record { totals = rw e; service = refl; under = refl; file = rw e }
grows_by R50 r a w e = record { totals = rw e; service = refl; under = refl; file = rw e }
grows_by R88 r a w e = absurd (false≢true w)
grows_by R89 r a w e = absurd (false≢true w)
grows_by Other r a w e = absurd (false≢true w)

module _ (w : Window) (f : Totals) (ks : List ℕ) (a : Assignment) (r : List ℕ) (h : AllHold f ks r (rows Draft w a r)) (u : under a.last ≡ true) (n : eqb (record_code r) 20 ≡ false) where
  may : may_follow Draft a (kind_of r) ≡ true
  unfolding AllHold
  may = h.1.0

  pub grows : GrowsBy (kind_of r) r a
  grows =
      let i = comes_within a (kind_of r) u (not_opening (record_code r) n) may in
      grows_by (kind_of r) r a i (code_is r (kind_of r) refl (not_other (kind_of r) i))
