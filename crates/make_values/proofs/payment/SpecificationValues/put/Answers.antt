-- The fields of a 50, one behind the other.
-- Assumes nothing.
use Rattle.write_fields.proofs.Places.{one_byte, one_number, one_right}
use Rattle.make_values.proofs.Laws.{all_put, is_50, opened}
use Rattle.make_values.proofs.payment.SpecificationValues.put.Goals as goal

pub returns : goal.returns
returns c =
    let a = c.args.self.now in
    let w1 = opened a.opening.service a.opening.code 50 a.opening.number c.args.r.now c.put.ensures in
    let w2 = one_right _ _ c.requires w1 c.put_right_at.ensures in
    let w3 = one_number _ _ w2 c.put_digits.ensures in
    let w4 = one_number _ _ w3 c.put_digits-2.ensures in
    let w5 = one_byte _ w4 c.put_byte.ensures in
    all_put _ c.told-r (is_50 a.opening.service a.opening.code a.opening.number a.kid.now a.amount.0) w5
