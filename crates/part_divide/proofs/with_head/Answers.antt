-- Nothing, the record 10, then the figures.
-- Assumes nothing.
use mathlib.Core.Path.{ap, ◌∙◌}
use Rattle.figures.specs.Totals.{◌⊕◌}
use Rattle.figures.specs.declared.totals.Totals.{Totals}
use Rattle.part_divide.proofs.Halves.{room_ten, one_ten, room_body}
use Rattle.part_divide.proofs.with_head.Goals as goal

pub with_record-requires : goal.with_record-requires
with_record-requires c = room_ten c.args.t c.requires _ c.none.ensures

pub plus-requires : goal.plus-requires
plus-requires c = room_body c.args.t c.requires _ (one_ten c.args.t c.requires _ _ c.none.ensures c.with_record.ensures)

pub returns : goal.returns
returns c = c.plus.ensures ∙ ap (λ (x : Totals). x ⊕ c.args.t) (one_ten c.args.t c.requires _ _ c.none.ensures c.with_record.ensures)
