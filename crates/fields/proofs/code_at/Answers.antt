use mathlib.Core.Path.{ap₂, sym, ◌∙◌}
use mathlib.Core.Bool.{◌&&◌}
use Rattle.field_digits.proofs.Values.{code_in, code_else}
use Rattle.fields.proofs.code_at.Goals as goal

pub returns-then-not-has : goal.returns-then-not-has
returns-then-not-has c = code_else _ _ c.requires.0 c.requires.2 (sym (ap₂ ◌&&◌ c.has.ensures c.has-2.ensures) ∙ c.if-not-has.true)

pub returns : goal.returns
returns c = code_in _ _ c.requires.0 c.requires.2 (sym (ap₂ ◌&&◌ c.has.ensures c.has-2.ensures) ∙ c.if-not-has.false)
