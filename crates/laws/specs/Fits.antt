-- The frame of demand 3: what a file asks of records that are put into it. Their sum, their assignments and their keys have to fit.
-- Assumes nothing.
use Rattle.std.specs.Prelude.{ℕ, ◌+◌, ◌≤◌, ◌≡◌, List, [], ◌∷◌, ◌++◌, false}
use Rattle.figures.specs.Figures.{limit_wide}
use Rattle.figures.specs.declared.totals.Totals.{Totals}
use Rattle.limits.specs.Limits.{most_assignments}
use Rattle.layout.specs.Rows.{member}
use Rattle.rules.specs.Codes.{kind_of}
use Rattle.rules.specs.declared.Kind.TheVariants.{R89}

-- the keys l are new to the keys ks, and to one another
unfoldable pub Fresh : List ℕ → List ℕ → Type 0
Fresh ks [] = Unit {0}
Fresh ks (k ∷ l) = (member k ks ≡ false) × Fresh (ks ++ (k ∷ [])) l

-- a file of these totals and keys takes records that add g and bring the keys l
pub record Fits (f : Totals) (ks : List ℕ) (g : Totals) (l : List ℕ) : Type 0 where
  pub sums : f.sum.0 + g.sum.0 ≤ limit_wide.0
  pub rooms : f.assignments.0 + g.assignments.0 ≤ most_assignments
  pub news : Fresh ks l

-- no record of the list is a file's end
unfoldable pub NoEnd : List (List ℕ) → Type 0
NoEnd [] = Unit {0}
NoEnd (r ∷ rs) = (kind_of r ≡ R89 → ⊥) × NoEnd rs
