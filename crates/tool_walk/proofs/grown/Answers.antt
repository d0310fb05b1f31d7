use Rattle.tool_walk.proofs.Grow.{room_record}
use mathlib.Core.Path.{sym, ◌∙◌}
use Rattle.tool_walk.proofs.grown.Goals as goal

pub with_record-requires : goal.with_record-requires
with_record-requires c = room_record _ (sym c.has_room.ensures ∙ c.if-not-has_room.false)
