use Prim.Native.Nat.{suc, ◌<◌, ◌-◌}
use mathlib.Core.Path.{◌≡◌, sym, ◌∙◌}
use native.Mathlib.Nat.{sub_self, div-one}
use native.Mathlib.Omega.{arith}
use lib.ListN.{length, drop_of_length-le}
use Rattle.field_digits.specs.Numbers.{written}
use Rattle.field_digits.proofs.Values.{written_length, rest_next, places_next}
use Rattle.fields.proofs.put_number.Goals as goal

pub loop-i-init : goal.loop-i-init
loop-i-init c =
    let a = c.args in
    let w = length a.out.now in (
      sym (rw (sub_self w) (div-one a.n)),
      drop_of_length-le a.out.now {i = w} (omega arith) ∙ sym (drop_of_length-le (written w a.n) {i = w} (omega (arith, written_length w a.n))),
    )

pub loop-i-preserved : goal.loop-i-preserved
loop-i-preserved c =
    let a = c.args in
    let w = length a.out.now in
    let j = c.loop-i.i - 1 in
    let e : c.loop-i.i ≡ suc j = omega arith in
    let l : length c.loop-i.out ≡ w = omega arith in
    let h : j < w = omega arith in
    let r = rw e at c.loop-i.invariant.0 in
    (rest_next w a.n c.loop-i.rest j c.loop-i.out l h r, places_next w a.n c.loop-i.rest j c.loop-i.out l h r (rw e at c.loop-i.invariant.1))

pub returns : goal.returns
returns c =
    let e : c.loop-i.i ≡ 0 = omega arith in
    rw e at c.loop-i.invariant.1
