-- Behind the first semicolon, if there is one.
-- Assumes nothing.
use mathlib.Core.Path.{sym, ◌∙◌}
use lib.Dec.{eqb}
use Rattle.std.proofs.Common.{rules, tests}
use Rattle.std.proofs.lemmas.Iterator.{YieldsList-from_slice}
use Rattle.std.proofs.lemmas.Iterator.Search.{position_from_yields_List}
use Rattle.make_lines.proofs.Pieces.{behind_none, behind_some}
use Rattle.make_lines.proofs.lines.behind_first.Goals as goal

pub returns-in-Some : goal.returns-in-Some
returns-in-Some c =
    let s = c.args.line.now in
    behind_some s _ (sym c.in-Some.is ∙ position_from_yields_List (λ b. eqb b 59) _ _ _ c.position.ensures.ran (YieldsList-from_slice s cc) (λ x b q k. search (rules, tests)))

pub returns-in-None : goal.returns-in-None
returns-in-None c =
    let s = c.args.line.now in
    behind_none s (sym c.in-None.is ∙ position_from_yields_List (λ b. eqb b 59) _ _ _ c.position.ensures.ran (YieldsList-from_slice s cc) (λ x b q k. search (rules, tests)))
