-- The opening, and then line, column and text in the fields of the service.
-- Assumes nothing.
use mathlib.Core.Path.{sym, ◌∙◌}
use Rattle.std.proofs.Common.{arith}
use Rattle.std.proofs.lemmas.Grind.{common_steps}
use Rattle.operations.specs.Making.{too_long}
use Rattle.make_values.proofs.Laws.{long_49}
use Rattle.make_values.proofs.message.MessageLineValues.too_long.Goals as goal

pub returns-in_err-too_long : goal.returns-in_err-too_long
unfolding too_long
returns-in_err-too_long c =
    let a = c.args.self.now in
    grind (arith, common_steps) ∙ sym (long_49 _ a.opening.service a.opening.code a.opening.number a.line a.column a.text.now c.line_field-field.ensures.0)

pub returns-in_err-fits : goal.returns-in_err-fits
unfolding too_long
returns-in_err-fits c =
    let a = c.args.self.now in
    grind (arith, common_steps) ∙ sym (long_49 _ a.opening.service a.opening.code a.opening.number a.line a.column a.text.now c.line_field-field.ensures.0)

pub returns-in_err-fits-2 : goal.returns-in_err-fits-2
unfolding too_long
returns-in_err-fits-2 c =
    let a = c.args.self.now in
    grind (arith, common_steps) ∙ sym (long_49 _ a.opening.service a.opening.code a.opening.number a.line a.column a.text.now c.line_field-field.ensures.0)

pub returns : goal.returns
unfolding too_long
returns c =
    let a = c.args.self.now in
    grind (arith, common_steps) ∙ sym (long_49 _ a.opening.service a.opening.code a.opening.number a.line a.column a.text.now c.line_field-field.ensures.0)
