use Rattle.figures.specs.Totals.{undated, one_assignment}
use Rattle.figures.proofs.Laws.{none_yet-⊞}
use Rattle.run_growth.proofs.open_for.Goals as goal

pub returns : goal.returns
returns c = simp (c.with_assignment.ensures, c.none.ensures, none_yet-⊞ (undated one_assignment), c.before_assignments.ensures)
