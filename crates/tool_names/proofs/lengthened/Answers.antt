-- The name and its ending, in their places.
-- Assumes nothing.
use Rattle.tool_names.proofs.Names.{whole_is}
use Rattle.tool_names.proofs.lengthened.Goals as goal

pub returns : goal.returns
returns c = whole_is _ c.args.name.now c.args.ending.now _ _ _ c.copy_from_slice.ensures.after c.copy_from_slice-2.ensures.after c.in_ok-whole.ensures.lookup.0.1
