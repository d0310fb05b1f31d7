-- Assumes nothing.
use mathlib.Core.Path.{refl, sym, ◌∙◌}
use native.Mathlib.Omega.{arith}
use lib.ListN.{length-take}
use Rattle.join_files.proofs.Answers.{accepted_before, few_keys, is_judged}
use Rattle.join_files.proofs.judged.Goals as goal

pub slice_bounds-keys-end : goal.slice_bounds-keys-end
slice_bounds-keys-end c =
    let e = accepted_before _ _ _ c.map_err.ensures.cases _ c.in_ok-totals.was in
    let f = few_keys _ c.requires.0 _ _ (sym c.judge.ensures.0 ∙ e) in
    sym (length-take c.in_ok-totals.totals.assignments.0 c.judge.new.keys ∙ omega (arith, f, c.judge.auto.keys, c.requires.1))

pub returns-clause-known : goal.returns-clause-known
returns-clause-known c =
    let e = accepted_before _ _ _ c.map_err.ensures.cases _ c.in_ok-totals.was in
    (refl, is_judged _ c.requires.0 _ _ (sym c.judge.ensures.0 ∙ e) _ (c.judge.ensures.1.found _ e))
