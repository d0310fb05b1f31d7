use Rattle.write_fields.proofs.Places.{nothing, one_byte, one_number, done, head_is}
use Rattle.write_fields.proofs.put_head.Goals as goal

pub returns : goal.returns
returns c =
    let a = c.args in
    let w2 = one_byte 89 (one_byte 78 (nothing a.out.now) c.put_byte.ensures) c.put_byte-2.ensures in
    let w4 = one_number 2 _ (one_number _ _ w2 c.put_digits.ensures) c.put_digits-2.ensures in
    done _ (head_is a.service a.code a.kind) (one_number 2 a.kind w4 c.put_digits-3.ensures)
