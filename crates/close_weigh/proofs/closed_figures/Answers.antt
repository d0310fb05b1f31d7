-- The 88s, then the 89.
-- Assumes nothing.
use mathlib.Core.Path.{ap, ◌∙◌}
use native.Mathlib.Omega.{arith}
use Rattle.figures.specs.Totals.{with_records}
use Rattle.figures.specs.declared.totals.Totals.{Totals}
use Rattle.close_weigh.proofs.closed_figures.Goals as goal

pub with_records-requires-2 : goal.with_records-requires-2
with_records-requires-2 c = omega (arith, ap (λ (x : Totals). x.records.0) c.with_records.ensures, c.requires.records, c.requires.assignments)

pub returns : goal.returns
returns c = c.with_records-2.ensures ∙ ap (with_records 1) c.with_records.ensures
