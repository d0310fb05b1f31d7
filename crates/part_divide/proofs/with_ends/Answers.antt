-- The record 10 before, the 89 behind.
-- Assumes nothing.
use mathlib.Core.Path.{ap, ◌∙◌}
use Rattle.figures.specs.Totals.{◌⊕◌, one_record}
use Rattle.figures.specs.declared.totals.Totals.{Totals}
use Rattle.part_divide.proofs.Halves.{room_end}
use Rattle.part_divide.proofs.with_ends.Goals as goal

pub with_record-requires : goal.with_record-requires
with_record-requires c = room_end c.args.t c.requires _ c.with_head.ensures

pub returns : goal.returns
returns c = c.with_record.ensures ∙ ap (λ (x : Totals). x ⊕ one_record) c.with_head.ensures
