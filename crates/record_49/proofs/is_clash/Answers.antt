-- A record clashes where it has a place and that is taken.
-- Assumes nothing.
use mathlib.Core.Path.{sym, ◌∙◌}
use Rattle.rules.proofs.Mask.{unplaced_free, placed_clashes}
use Rattle.record_49.proofs.is_clash.Goals as goal

pub returns-then-not-is_place : goal.returns-then-not-is_place
returns-then-not-is_place c =
    let s = c.args in
    sym (unplaced_free s.places s.line s.column (sym c.is_place.ensures ∙ c.if-not-is_place.true))

pub returns : goal.returns
returns c =
    let s = c.args in
    c.is_taken.ensures ∙ sym (placed_clashes s.places s.line s.column (sym c.is_place.ensures ∙ c.if-not-is_place.false))
