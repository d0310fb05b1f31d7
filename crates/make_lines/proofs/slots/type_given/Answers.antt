-- A text that is not two bytes long is none of the types.
-- Assumes nothing.
use native.Mathlib.Omega.{arith}
use Rattle.make_lines.proofs.Counting.{other_type}
use Rattle.make_lines.proofs.slots.type_given.Goals as goal

pub returns-in_default : goal.returns-in_default
returns-in_default c = other_type _ (λ e. omega arith)

pub returns-in_default-8 : goal.returns-in_default-8
returns-in_default-8 c = other_type _ (λ e. omega arith)
