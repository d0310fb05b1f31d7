use mathlib.Core.Path.{ap₂, sym, ◌∙◌}
use mathlib.Core.Bool.{◌&&◌}
use Rattle.std.proofs.Common.{rules}
use native.Mathlib.Omega.{arith}
use Rattle.field_digits.proofs.Ahead.{word_below, nine_yes, nine_no}
use Rattle.field_digits.proofs.nine.Goals as goal

pub returns-then-not-has-all_digits : goal.returns-then-not-has-all_digits
returns-then-not-has-all_digits c =
    nine_no _ _ c.requires c.word-rest.ensures (sym (ap₂ ◌&&◌ c.has.ensures c.all_digits.ensures) ∙ c.if-not-has-all_digits.true)

pub overflow_add-result : goal.overflow_add-result
overflow_add-result c = omega (arith, c.value_in.ensures, word_below c.word-rest.result (search rules))

pub returns : goal.returns
returns c =
    rw (c.from.ensures, c.value_in.ensures) (nine_yes _ _ c.requires c.word-rest.ensures (sym (ap₂ ◌&&◌ c.has.ensures c.all_digits.ensures) ∙ c.if-not-has-all_digits.false))
