-- The fields of a 30, one behind the other.
-- Assumes nothing.
use Rattle.write_fields.proofs.Places.{one_byte, one_number, one_right}
use Rattle.make_values.proofs.Laws.{all_put, is_30, opened}
use Rattle.make_values.proofs.payment.PaymentValues.put.Goals as goal

pub returns : goal.returns
returns c =
    let a = c.args.self.now in
    let w1 = opened a.opening.service a.opening.code 30 a.opening.number c.args.r.now c.put.ensures in
    let w2 = one_number _ _ w1 c.put_digits.ensures in
    let w3 = one_right _ _ c.requires.0 w2 c.put_right_at.ensures in
    let w4 = one_number _ _ w3 c.put_digits-2.ensures in
    let w5 = one_right _ _ c.requires.1 w4 c.put_right_at-2.ensures in
    let w6 = one_number _ _ w5 c.put_digits-3.ensures in
    let w7 = one_byte _ w6 c.put_byte.ensures in
    all_put _ c.told-r (is_30 a.opening.service a.opening.code a.opening.number a.date a.party.now a.amount.0 a.kid.now) w7
