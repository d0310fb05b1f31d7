-- Seven digits as a transaction's number.
-- Assumes nothing.
use Rattle.std.proofs.Common.{arith}
use Rattle.record_shared.proofs.Pieces.{read_below}
use Rattle.record_shared.proofs.transaction_number.Goals as goal

pub overflow_cast-result : goal.overflow_cast-result
overflow_cast-result c = omega (arith, read_below 9 15 5 c.args.r.now _ (omega arith) c.in_ok-n.ensures)
