-- With a return at the end, or without.
-- Assumes nothing.
use mathlib.Core.List.{[], ◌∷◌}
use Rattle.std.proofs.lemmas.Bool.Decides.{Decides-eqb}
use Rattle.std.proofs.lemmas.Slice.Eq.{strip_suffix_is}
use Rattle.make_lines.proofs.Pieces.{return_off}
use Rattle.make_lines.proofs.lines.without_return.Goals as goal

pub returns : goal.returns
returns c = return_off c.args.line _ (strip_suffix_is Decides-eqb c.args.line.now (13 ∷ []) _ c.strip_suffix.ensures.cases) c.unwrap_or.ensures
