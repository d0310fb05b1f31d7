-- Some key of the second list stands in the first.
-- Assumes nothing.
use mathlib.Core.Path.{◌∙◌}
use Prim.Native.Nat.{ℕ}
use Rattle.std.proofs.Common.{rules, tests}
use Rattle.std.proofs.lemmas.Iterator.{YieldsList-from_slice}
use Rattle.std.proofs.lemmas.Iterator.Search.{any_from_yields_List}
use Rattle.layout.specs.Rows.{member}
use Rattle.join_pairs.proofs.Shared.{shares_any}
use Rattle.join_pairs.proofs.any_shared.Goals as goal

pub returns : goal.returns
returns c =
    let a = c.args in
    any_from_yields_List (λ (k : ℕ). member k a.ours.now) _ _ _ c.any.ensures.ran (YieldsList-from_slice a.theirs.now cc) (λ x b q k. search (rules, tests)) ∙ shares_any a.ours.now a.theirs.now
