-- Pieces of a table: one with a fault ends the whole.
-- Assumes nothing.
use Rattle.std.proofs.Common.{Ok, Err}
use Prim.Native.Nat.{ℕ}
use mathlib.Core.Path.{◌≡◌, refl, sym, ap, ap₂, ◌∙◌}
use mathlib.Core.List.{List, [], ◌∷◌, ◌++◌}
use mathlib.Core.Bool.{Bool}
use Rattle.std.specs.Result.{result_and}
use Rattle.figures.specs.declared.totals.Totals.{Totals}
use Rattle.layout.specs.Findings.{Finding, or_else, demanded}
use Rattle.layout.specs.Rows.{Row, passes, first_fault, row_reason, row_field}
use Rattle.layout.specs.declared.Fault.{Fault}
use Rattle.layout.proofs.Laws.{ends_here, pieces, then_rows}

and_is : (x y : Finding) → result_and x y ≡ or_else x y
and_is (Ok u) y = refl
and_is (Err e) y = refl

module _ (f : Totals) (ks r : List ℕ) (ws vs : List Row) where
  pub stops : {x y : Finding} {e : Fault} → x ≡ first_fault f ks r ws → x ≡ Err e → y ≡ Err e → y ≡ first_fault f ks r (ws ++ vs)
  stops {e = e} h g q = q ∙ sym g ∙ ends_here f ks r ws vs h g

  -- what a piece was found to be, and what the piece behind it was
  pub both : {x y z : Finding} → z ≡ result_and x y → x ≡ first_fault f ks r ws → y ≡ first_fault f ks r vs → z ≡ first_fault f ks r (ws ++ vs)
  both {x} {y} h e g = h ∙ and_is x y ∙ ap₂ or_else e g ∙ sym (pieces f ks r ws vs)

-- a finding of a piece, or else what comes after it: another piece, or one row more
module _ (f : Totals) (ks r : List ℕ) where
  pub then_piece : (ws vs : List Row) {x y z : Finding} → z ≡ or_else x y → x ≡ first_fault f ks r ws → y ≡ first_fault f ks r vs → z ≡ first_fault f ks r (ws ++ vs)
  then_piece ws vs h e g = h ∙ ap₂ or_else e g ∙ sym (pieces f ks r ws vs)

  pub then_row : (ws : List Row) (w : Row) {x z : Finding} {b : Bool} → z ≡ demanded x b (row_reason w) (row_field w) → x ≡ first_fault f ks r ws → b ≡ passes f ks r w → z ≡ first_fault f ks r (ws ++ (w ∷ []))
  then_row ws w {x} h e g = h ∙ ap (λ (b : Bool). demanded x b (row_reason w) (row_field w)) g ∙ sym (then_rows f ks r ws (w ∷ []) (sym e))
