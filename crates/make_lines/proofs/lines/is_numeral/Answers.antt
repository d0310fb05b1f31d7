-- No byte, or all of them.
-- Assumes nothing.
use mathlib.Core.Path.{sym, ap, ◌∙◌}
use mathlib.Core.Bool.{not, false≢true}
use borrow.Author.Tests.{eq-eqb, eqb-true}
use Rattle.make_lines.proofs.Numbers.{numeral_none, numeral_some}
use Rattle.make_lines.proofs.lines.is_numeral.Goals as goal

pub returns-then-not-is_empty : goal.returns-then-not-is_empty
returns-then-not-is_empty c = c.has_all.ensures ∙ numeral_some _ (λ e. false≢true (sym c.if-not-is_empty.true ∙ c.is_empty.ensures ∙ eq-eqb _ _ e))

pub returns-else-not-is_empty : goal.returns-else-not-is_empty
returns-else-not-is_empty c = ap not c.if-not-is_empty.false ∙ numeral_none _ (eqb-true _ _ (sym c.is_empty.ensures ∙ c.if-not-is_empty.false))
