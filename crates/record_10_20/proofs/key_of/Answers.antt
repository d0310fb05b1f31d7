-- The key of two digit fields is that of the record.
-- Assumes nothing.
use Rattle.std.proofs.Common.{arith, sym, ◌∙◌}
use Rattle.fields.proofs.Width.{below_at}
use Rattle.record_10_20.proofs.Laws.{or_zero_below, or_zero_value}
use Rattle.record_10_20.proofs.key_of.Goals as goal

pub joined-requires : goal.joined-requires
joined-requires c =
    let r = c.args.r.now in
    let a = or_zero_below c.number_at.result 1000000000 (omega arith) (λ n e. below_at 9 17 r n (omega arith) (sym c.number_at.ensures ∙ e)) in
    let n = or_zero_below c.number_at-2.result 10000000 (omega arith) (λ n e. below_at 18 24 r n (omega arith) (sym c.number_at-2.ensures ∙ e)) in
    (omega (arith, c.unwrap_or-agreement.ensures), omega (arith, c.unwrap_or-number.ensures))

pub returns : goal.returns
returns c = λ p q. let a = or_zero_value _ _ c.number_at.ensures p in let n = or_zero_value _ _ c.number_at-2.ensures q in grind (arith, a, n)
