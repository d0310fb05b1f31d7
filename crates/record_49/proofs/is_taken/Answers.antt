-- A place is tested by its bit.
-- Assumes nothing.
use mathlib.Core.Path.{refl}
use Rattle.rules.specs.Messages.{taken}
use Rattle.record_49.proofs.is_taken.Goals as goal

pub returns : goal.returns
unfolding taken
returns c = refl
