-- The fields of a 10, one behind the other.
-- Assumes nothing.
use Rattle.write_fields.proofs.Places.{headed, one_byte, one_number}
use Rattle.make_values.proofs.Laws.{all_put, is_10}
use Rattle.make_values.proofs.start.FileStartValues.put.Goals as goal

pub returns : goal.returns
returns c =
    let a = c.args.self.now in
    let w1 = headed 0 0 10 c.args.r.now c.put_head.ensures in
    let w2 = one_number _ _ w1 c.put_digits.ensures in
    let w3 = one_number _ _ w2 c.put_digits-2.ensures in
    let w4 = one_number _ _ w3 c.put_digits-3.ensures in
    let w5 = one_number _ _ w4 c.put_digits-4.ensures in
    let w6 = one_byte _ w5 c.put_byte.ensures in
    all_put _ c.told-r (is_10 a.sender a.number) w6
