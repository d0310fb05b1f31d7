-- Assumes nothing.
use Rattle.std.proofs.Common.{arith}
use Rattle.std.proofs.lemmas.Grind.{common_steps}
use Rattle.make_lines.specs.Lines.{capped}
use Rattle.make_lines.proofs.lines.more.Goals as goal

pub returns : goal.returns
unfolding capped
returns c = grind (arith, common_steps)
