use Rattle.tool_walk.proofs.Grow.{room_assignment}
use Rattle.figures.proofs.Laws.{none_yet-⊞}
use Rattle.figures.specs.Totals.{undated, one_assignment}
use Rattle.tool_walk.proofs.opened.Goals as goal

pub with_assignment-requires-2 : goal.with_assignment-requires-2
with_assignment-requires-2 c = room_assignment _ c.requires

pub returns : goal.returns
returns c = simp (c.service_for.ensures, c.code_at.ensures, c.with_assignment.ensures, c.none.ensures, none_yet-⊞ (undated one_assignment), c.with_assignment-2.ensures, c.outside.ensures)
