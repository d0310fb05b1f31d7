-- Fields 1 to 4, and the number behind them.
-- Assumes nothing.
use mathlib.Core.Path.{refl}
use Rattle.make_values.specs.Opening.{opening_bytes}
use Rattle.write_fields.proofs.Places.{done, headed, one_number}
use Rattle.make_values.proofs.opening.Opening.put.Goals as goal

pub returns : goal.returns
unfolding opening_bytes
returns c =
    let a = c.args in
    let o = a.self.now in
    done _ refl (one_number _ _ (headed o.service o.code a.kind a.r.now c.put_head.ensures) c.put_digits.ensures)
