-- A word that is none of the six.
-- Assumes nothing.
use mathlib.Core.Path.{sym}
use Rattle.tool_command.proofs.CommandLine.{no_command}
use Rattle.tool_command.proofs.command_from.Goals as goal

pub returns-in_default : goal.returns-in_default
returns-in_default c = let n = c.in_default in sym (no_command _ n.not-check n.not-make n.not-close n.not-join n.not-part n.not-help)
