-- Line and column of a message, in turn: each that is no such number ends the stage; then what they find of the message.
-- Assumes nothing.
use Rattle.std.proofs.Common.{arith}
use Rattle.layout.specs.Rows.{first_fault}
use Rattle.rules.specs.Payments.{is_line, is_column}
use Rattle.record_49.specs.Bounds.{is_up_to, up_to}
use Rattle.record_49.proofs.Bounds.{within}
use Rattle.record_49.proofs.placing.Goals as goal

pub put_on-requires : goal.put_on-requires
put_on-requires c = (
  within 21 _ _ _ c.in_ok-line.ensures,
  within 2 _ _ _ c.in_ok-column.ensures,
)

pub returns : goal.returns
unfolding first_fault is_line is_column up_to is_up_to
returns c = λ f ks. grind (arith, c.put_on.ensures f ks c.args.r.now)
