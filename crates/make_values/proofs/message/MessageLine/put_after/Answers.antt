-- Line, column, text, zeros and the line feed, one behind the other.
-- Assumes nothing.
use Prim.Native.Nat.{◌+◌}
use native.Mathlib.Omega.{arith}
use lib.ListN.{take}
use Rattle.write_fields.proofs.Places.{one_byte, one_left, one_number}
use Rattle.make_values.proofs.Laws.{all_put, from_there, is_message, same_place}
use Rattle.make_values.proofs.message.MessageLine.put_after.Goals as goal

pub returns : goal.returns
returns c =
    let a = c.args in
    let w0 = from_there a.at a.r.now (omega (arith, c.requires)) in
    let w1 = one_number _ _ w0 c.put_digits.ensures in
    let w2 = same_place (a.at + 4) (omega arith) (one_number _ _ w1 c.put_digits-2.ensures) in
    let w3 = same_place (a.at + 44) (omega arith) (one_left _ _ c.requires.1 w2 c.put_left_at.ensures) in
    let w4 = same_place 80 (omega (arith, c.requires.0)) (one_number _ _ w3 c.put_digits-3.ensures) in
    let w5 = one_byte _ w4 c.put_byte.ensures in
    all_put _ c.told-r (is_message a.at a.self.now.line a.self.now.column (take a.at a.r.now) a.self.now.text.now) w5
