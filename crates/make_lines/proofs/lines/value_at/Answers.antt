-- The value in its place among those that `split` gives.
-- Assumes nothing.
use mathlib.Core.Path.{refl}
use Rattle.std.proofs.Common.{rules, tests}
use Rattle.std.proofs.lemmas.Iterator.Consumers.{nth_from_yields_List}
use Rattle.std.proofs.lemmas.Iterator.Splits.{YieldsList-from_slice_split}
use Rattle.make_lines.proofs.Pieces.{piece_at}
use Rattle.make_lines.proofs.lines.value_at.Goals as goal

pub returns : goal.returns
returns c =
    let a = c.args in
    piece_at 59 a.line.now a.i _ _ refl
    (nth_from_yields_List _ _ a.i c.nth.ensures.ran (YieldsList-from_slice_split _ _ a.line.now c.split.ensures.rest c.split.ensures.done c.split.ensures.closure (λ x r q k. search (rules, tests))))
    c.unwrap_or.ensures
