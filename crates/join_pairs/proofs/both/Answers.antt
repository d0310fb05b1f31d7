-- Assumes nothing.
use mathlib.Core.Path.{ap, ◌∙◌}
use native.Mathlib.Omega.{arith}
use Rattle.figures.specs.Totals.{less_records}
use Rattle.figures.specs.declared.totals.Totals.{Totals}
use Rattle.join_pairs.proofs.both.Goals as goal

pub less_records-requires : goal.less_records-requires
less_records-requires c = omega (arith, ap (λ (x : Totals). x.records.0) c.plus.ensures, c.requires.0.ends)

pub returns : goal.returns
returns c = c.less_records.ensures ∙ ap (less_records 2) c.plus.ensures
