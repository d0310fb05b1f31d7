-- A place that is taken, a message with no room, and one record more.
-- Assumes nothing.
use Rattle.std.proofs.Common.{arith}
use Rattle.rules.proofs.Free.{clash, full, room}
use Rattle.record_49.proofs.put_on.Goals as goal

pub returns-in_err-demand : goal.returns-in_err-demand
returns-in_err-demand c = λ f ks r. let s = c.args in grind (arith, clash s.places s.line s.column f ks r)

pub returns-in_err-demand-2 : goal.returns-in_err-demand-2
returns-in_err-demand-2 c = λ f ks r. let s = c.args in grind (arith, full s.places s.line s.column f ks r)

pub returns : goal.returns
returns c = λ f ks r. let s = c.args in grind (arith, room s.places s.line s.column f ks r)
