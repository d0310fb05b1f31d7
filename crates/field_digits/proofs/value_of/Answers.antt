use mathlib.Core.Path.{sym, ◌∙◌}
use native.Mathlib.Omega.{arith}
use Rattle.field_bytes.proofs.Every.{digit_at}
use Rattle.field_digits.proofs.Values.{value_next, value_end, grows, room}
use Rattle.field_digits.proofs.value_of.Goals as goal

pub overflow_mul-n : goal.overflow_mul-n
overflow_mul-n c = omega (arith, room _ _ 0 c.loop-b.invariant.0 (omega arith) (omega arith))

pub overflow_sub-b : goal.overflow_sub-b
overflow_sub-b c = (digit_at _ c.loop-b.b-index c.requires.1 (omega arith)).0

pub overflow_add-n : goal.overflow_add-n
overflow_add-n c =
    let d = digit_at c.args.s.now c.loop-b.b-index c.requires.1 (omega arith) in
    omega (arith, room _ _ c.from.result c.loop-b.invariant.0 (omega arith) (omega (arith, d, c.from.ensures)))

pub loop-b-preserved : goal.loop-b-preserved
loop-b-preserved c =
    let s = c.args.s.now in
    let d = digit_at s c.loop-b.b-index c.requires.1 (omega arith) in (
      grows _ _ _ c.loop-b.invariant.0 (omega (arith, d, c.from.ensures)),
      rw c.from.ensures (value_next c.loop-b.n s c.loop-b.b-index (omega arith)) ∙ c.loop-b.invariant.1,
    )

pub returns : goal.returns
returns c = sym (value_end c.loop-b.n c.args.s.now c.loop-b.b-index (omega arith)) ∙ c.loop-b.invariant.1
