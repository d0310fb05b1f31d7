use native.Mathlib.Omega.{arith}
use Rattle.write_fields.proofs.Places.{nothing, one_byte, one_number, one_number_told, done}
use Rattle.write_file.proofs.Ends.{figures_are}
use Rattle.write_file.proofs.put_figures.Goals as goal

pub put_byte-requires : goal.put_byte-requires
put_byte-requires c =
    omega (arith, c.put_digits-6.auto.out, c.put_digits-5.auto.out, c.put_digits-4.auto.out, c.put_digits-3.auto.out, c.put_digits-2.auto.out, c.put_digits.auto.out, c.requires)

pub returns : goal.returns
returns c =
    let t = c.args.t in
    let w1 = one_number_told _ c.from.ensures (nothing c.args.out.now) c.put_digits.ensures in
    let w2 = one_number_told _ c.from-2.ensures w1 c.put_digits-2.ensures in
    let w3 = one_number _ _ w2 c.put_digits-3.ensures in
    let w4 = one_number_told _ c.ddmmyy_of.ensures w3 c.put_digits-4.ensures in
    let w5 = one_number_told _ c.ddmmyy_of-2.ensures w4 c.put_digits-5.ensures in
    let w6 = one_number _ _ w5 c.put_digits-6.ensures in
    done _ (figures_are t c.args.last) (one_byte _ w6 c.put_byte.ensures)
