-- Tables in pieces, as a check goes through them: a piece that is sound leaves the rest, and one with a fault ends the whole. What a piece brings where it is sound.
-- Assumes nothing.
use Rattle.std.proofs.Common.{Some, None, Ok, Err}
use Prim.Native.Nat.{ℕ, ◌+◌, ◌-◌, ◌^◌, ◌<◌}
use mathlib.Core.Path.{◌≡◌, refl, sym, ◌∙◌, ap}
use mathlib.Core.List.{List, ◌++◌}
use native.Mathlib.Omega.{arith}
use Rattle.std.specs.Prelude.{Option, Result}
use Rattle.std.specs.Option.{ok_or}
use Rattle.fields.specs.Bytes.{Inside, part}
use Rattle.fields.specs.Numbers.{number_of}
use Rattle.fields.proofs.Width.{below_at}
use Rattle.figures.specs.declared.totals.Totals.{Totals}
use Rattle.layout.specs.Findings.{Finding, fault, sound, brings}
use Rattle.layout.specs.Rows.{Row, first_fault}
use Rattle.layout.specs.declared.Fault.{Fault}
use Rattle.layout.specs.declared.Reason.TheVariants.{WrongForm}
use Rattle.layout.proofs.Laws.{then_piece}

sound_by : {A : Type 0} (x : Finding) {v y : A} → brings x v ≡ Ok y → (x ≡ sound) × (y ≡ v)
sound_by (Ok u) h = (refl, cc)
sound_by (Err e) h = let z : ◌≡◌ {A = ℕ} 0 1 = cc in absurd (omega arith)

fault_by : {A : Type 0} (x : Finding) (v : A) {e : Fault} → brings x v ≡ Err e → x ≡ Err e
fault_by (Ok u) v h = let z : ◌≡◌ {A = ℕ} 0 1 = cc in absurd (omega arith)
fault_by (Err d) v {e} h = let g : d ≡ e = cc in ap Err g

module _ (f : Totals) (ks : List ℕ) (r : List ℕ) where
  -- past a piece that is sound, and at one that is not
  pub past : (ws vs : List Row) → first_fault f ks r ws ≡ sound → first_fault f ks r (ws ++ vs) ≡ first_fault f ks r vs
  past ws vs h = then_piece f ks r ws vs h

  pub ends : (ws vs : List Row) {e : Fault} → first_fault f ks r ws ≡ Err e → first_fault f ks r (ws ++ vs) ≡ Err e
  ends ws vs h = then_piece f ks r ws vs h

  -- a piece that brought its value is sound, and one that answered a fault has it
  pub brought : {A : Type 0} (ws : List Row) {x : Result A Fault} {v y : A} → x ≡ brings (first_fault f ks r ws) v → x ≡ Ok y → (first_fault f ks r ws ≡ sound) × (y ≡ v)
  brought ws made h = sound_by (first_fault f ks r ws) (sym made ∙ h)

  pub failed : {A : Type 0} (ws : List Row) (v : A) {x : Result A Fault} {e : Fault} → x ≡ brings (first_fault f ks r ws) v → x ≡ Err e → first_fault f ks r ws ≡ Err e
  failed ws v made h = fault_by (first_fault f ks r ws) v (sym made ∙ h)

-- digits that were read are fewer than their places hold
pub read_below : (from to k : ℕ) (r : List ℕ) (n : ℕ) → Inside from to r → Ok n ≡ ok_or (number_of (part from to r)) (fault WrongForm k) → n < 10 ^ (to + 1 - from)
read_below from to k r n h e = below_at from to r n h (go (number_of (part from to r)) e)
  where
    go : (o : Option ℕ) → Ok n ≡ ok_or o (fault WrongForm k) → o ≡ Some n
    go (Some m) e = cc
    go None e = let z : ◌≡◌ {A = ℕ} 0 1 = cc in absurd (omega arith)
