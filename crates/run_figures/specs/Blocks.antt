-- The figures of each assignment of an input, in the order in which they come.
-- Assumes nothing.
use Rattle.std.specs.Prelude.{ℕ, List, [], ◌∷◌, ◌++◌, eqb, if◌then◌else◌}
use Rattle.figures.specs.declared.totals.AssignmentTotals.{AssignmentTotals}
use Rattle.services.specs.Services.{service_for}
use Rattle.rules.specs.Codes.{kind_of, number_of_kind, service_code}
use Rattle.rules.specs.Growth.{turn, opened}
use Rattle.rules.specs.declared.Assignment.{Assignment}
use Rattle.rules.specs.declared.Kind.{Kind}

-- a record 20 ends what stood before it
abbrev pub done_for : Kind → AssignmentTotals → List AssignmentTotals
done_for k t = if eqb (number_of_kind k) 20 then t ∷ [] else []

abbrev pub done : List ℕ → AssignmentTotals → List AssignmentTotals
done r t = done_for (kind_of r) t

-- the figures after an assignment at hand: of it, and of each that comes after it
unfoldable pub blocks : Assignment → List (List ℕ) → List AssignmentTotals
blocks a [] = a.totals ∷ []
blocks a (r ∷ rs) = done r a.totals ++ blocks (turn r a) rs

-- the same from records on that begin with a 20
unfoldable pub figures_from : List (List ℕ) → List AssignmentTotals
figures_from [] = []
figures_from (r ∷ rs) = blocks (opened (service_for (service_code r))) rs
