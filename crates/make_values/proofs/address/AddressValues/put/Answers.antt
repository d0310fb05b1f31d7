-- The fields of a 40, one behind the other.
-- Assumes nothing.
use Rattle.write_fields.proofs.Places.{one_byte, one_left, one_number}
use Rattle.make_values.proofs.Laws.{all_put, is_40, opened}
use Rattle.make_values.proofs.address.AddressValues.put.Goals as goal

pub returns : goal.returns
returns c =
    let a = c.args.self.now in
    let w1 = opened a.opening.service a.opening.code 40 a.opening.number c.args.r.now c.put.ensures in
    let w2 = one_left _ _ c.requires.0 w1 c.put_left_at.ensures in
    let w3 = one_left _ _ c.requires.1 w2 c.put_left_at-2.ensures in
    let w4 = one_left _ _ c.requires.2 w3 c.put_left_at-3.ensures in
    let w5 = one_left _ _ c.requires.3 w4 c.put_left_at-4.ensures in
    let w6 = one_number _ _ w5 c.put_digits.ensures in
    let w7 = one_byte _ w6 c.put_byte.ensures in
    all_put _ c.told-r (is_40 a.opening.service a.opening.code a.opening.number a.name.now a.postal.now a.filler.now a.area.now) w7
