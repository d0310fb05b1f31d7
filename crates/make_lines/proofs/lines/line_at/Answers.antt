-- The line in its place among those that `split` gives.
-- Assumes nothing.
use Prim.Native.Nat.{ℕ}
use mathlib.Core.List.{[]}
use mathlib.Core.Path.{refl, ap, ◌∙◌}
use lib.ListN.{get_or}
use Rattle.std.proofs.Common.{rules, tests}
use Rattle.std.proofs.lemmas.Iterator.Consumers.{nth_from_yields_List}
use Rattle.std.proofs.lemmas.Iterator.Splits.{YieldsList-from_slice_split}
use Rattle.make_lines.specs.Lines.{lines_of}
use Rattle.make_lines.proofs.Pieces.{line_is, piece_at}
use Rattle.make_lines.proofs.lines.line_at.Goals as goal

pub returns : goal.returns
returns c =
    let a = c.args in
    let place = c.saturating_sub-place.result in
    c.without_return.ensures
    ∙ line_is a.values.now place _
    (piece_at 10 a.values.now place _ _ refl
    (nth_from_yields_List _ _ place c.nth-found.ensures.ran (YieldsList-from_slice_split _ _ a.values.now c.split.ensures.rest c.split.ensures.done c.split.ensures.closure (λ x r q k. search (rules, tests))))
    c.unwrap_or.ensures)
    ∙ ap (λ (i : ℕ). get_or (lines_of a.values.now) i []) c.saturating_sub-place.ensures
