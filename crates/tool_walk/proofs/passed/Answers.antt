use Rattle.tool_walk.proofs.Grow.{room_record}
use Rattle.tool_walk.proofs.passed.Goals as goal

pub with_record-requires : goal.with_record-requires
with_record-requires c = room_record _ c.requires.1

pub with_record-requires-2 : goal.with_record-requires-2
with_record-requires-2 c = room_record _ c.requires.0
