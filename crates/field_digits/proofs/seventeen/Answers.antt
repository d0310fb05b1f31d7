use mathlib.Core.Path.{ap₂, sym, ◌∙◌}
use mathlib.Core.Bool.{◌&&◌}
use Rattle.std.proofs.Common.{rules}
use native.Mathlib.Omega.{arith}
use Rattle.field_digits.proofs.Ahead.{word_below, seventeen_yes, seventeen_no}
use Rattle.field_digits.proofs.seventeen.Goals as goal

pub returns-then-not-has-all_digits : goal.returns-then-not-has-all_digits
returns-then-not-has-all_digits c =
    seventeen_no _ _ _ c.requires c.word-high.ensures c.word-low.ensures (sym (ap₂ ◌&&◌ (ap₂ ◌&&◌ c.has.ensures c.all_digits.ensures) c.all_digits-2.ensures) ∙ c.if-not-has-all_digits.true)

pub overflow_add-result : goal.overflow_add-result
overflow_add-result c = omega (arith, c.value_in.ensures, word_below c.word-high.result (search rules))

pub overflow_mul-result-2 : goal.overflow_mul-result-2
overflow_mul-result-2 c = omega (arith, c.value_in.ensures, word_below c.word-high.result (search rules))

pub overflow_add-result-2 : goal.overflow_add-result-2
overflow_add-result-2 c =
    omega (arith, c.value_in.ensures, word_below c.word-high.result (search rules), c.value_in-2.ensures, word_below c.word-low.result (search rules))

pub returns : goal.returns
returns c =
    rw (c.from.ensures, c.value_in.ensures, c.value_in-2.ensures) (seventeen_yes _ _ _ c.requires c.word-high.ensures c.word-low.ensures (sym (ap₂ ◌&&◌ (ap₂ ◌&&◌ c.has.ensures c.all_digits.ensures) c.all_digits-2.ensures) ∙ c.if-not-has-all_digits.false))
