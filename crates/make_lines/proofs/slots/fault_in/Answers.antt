-- The record type, then the values.
-- Assumes nothing.
use Rattle.std.proofs.Common.{arith}
use Rattle.make_lines.specs.Draft.{fault_in}
use Rattle.make_lines.proofs.slots.fault_in.Goals as goal

pub returns-in_err-demand : goal.returns-in_err-demand
unfolding fault_in
returns-in_err-demand c = grind arith

pub returns : goal.returns
unfolding fault_in
returns c = grind arith
