use Rattle.tool_names.proofs.Names.{ending_is}
use Rattle.tool_names.proofs.ending_of.Goals as goal

pub returns : goal.returns
returns c = ending_is _ _ _ _ c.copy_from_slice.ensures.after c.copy_from_slice-2.ensures.after c.told-m c.told-word
