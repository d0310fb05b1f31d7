-- A file's figures are tested as an assignment's are; a figure told of the number that it is held against.
-- Assumes nothing.
use Prim.Native.Nat.{ℕ}
use mathlib.Core.Path.{◌≡◌, refl, sym, ◌∙◌, ap}
use mathlib.Core.List.{List, [], ◌∷◌, ◌++◌}
use Rattle.figures.specs.declared.totals.Totals.{Totals}
use Rattle.layout.specs.Findings.{Finding}
use Rattle.layout.specs.Rules.{zeros}
use Rattle.layout.specs.Rows.{at, first_fault}
use Rattle.rules.specs.Fields.{Field}
use Rattle.rules.specs.Layouts.{own, outside, figures88, record89}

module _ (f : Totals) (ks r : List ℕ) where
  -- record 89 tests the file's figures as 88 tests its assignment's
  pub file_as_own : first_fault f ks r (record89 r) ≡ first_fault f ks r (outside ++ figures88 r f ++ (at 9 48 80 zeros ∷ []))
  unfolding first_fault
  file_as_own = refl

  -- what a figure was found to be, by the number that the code held it against
  pub figure : (x : Field) {n m : ℕ} {found told : Finding} → found ≡ first_fault f ks r (own x r n) → n ≡ m → found ≡ told → first_fault f ks r (own x r m) ≡ told
  figure x made h g = ap (λ (k : ℕ). first_fault f ks r (own x r k)) (sym h) ∙ sym made ∙ g
