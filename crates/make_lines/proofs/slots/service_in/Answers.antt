-- The number 4, and that digits write it.
-- Assumes nothing.
use mathlib.Core.Path.{◌≡◌, sym, ap, ◌∙◌}
use mathlib.Core.List.{[]}
use mathlib.Core.Bool.{Bool, true, false, ◌&&◌}
use lib.Dec.{eqb}
use lib.ListN.{get_or}
use Rattle.make_lines.specs.Lines.{is_numeral, values_of}
use Rattle.make_lines.proofs.Caps.{service_told}
use Rattle.make_lines.proofs.slots.service_in.Goals.{After-is_numeral}
use Rattle.make_lines.proofs.slots.service_in.Goals as goal

read : (p : After-is_numeral) → eqb p.number_at.result 4 && is_numeral (get_or (values_of p.args.line.now) 1 []) ≡ eqb p.number_at.result 4 && p.is_numeral.result
read p = ap (λ (b : Bool). eqb p.number_at.result 4 && b) (ap is_numeral (sym p.value_at.ensures) ∙ sym p.is_numeral.ensures)

pub returns-then-four : goal.returns-then-four
returns-then-four c = service_told c.args.line.now _ c.number_at.ensures true (read (goal.at.returns-then-four c).After-is_numeral ∙ c.if-four.true)

pub returns-else-four : goal.returns-else-four
returns-else-four c = service_told c.args.line.now _ c.number_at.ensures false (read (goal.at.returns-else-four c).After-is_numeral ∙ c.if-four.false)
