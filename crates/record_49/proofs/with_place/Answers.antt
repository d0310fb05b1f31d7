-- A place is taken by setting its bit.
-- Assumes nothing.
use mathlib.Core.Path.{ap, ◌∙◌}
use native.Mathlib.Omega.{arith}
use native.Mathlib.Nat.{one-mul}
use lib.Bits.{bit_or}
use lib.Dec.{lit<}
use lib.Pow.{shl_exact}
use Rattle.rules.specs.Messages.{with_place}
use Rattle.record_49.proofs.with_place.Goals as goal

pub returns : goal.returns
unfolding with_place
returns c = ap (bit_or c.args.mask) (shl_exact {a = 1} 1 c.args.place 64 (lit< tt) (omega arith) ∙ one-mul _)
