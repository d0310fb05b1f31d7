-- The lines that are not passed over, counted.
-- Assumes nothing.
use mathlib.Core.Path.{◌∙◌}
use mathlib.Core.Bool.{not}
use Rattle.std.proofs.Common.{rules, tests}
use Rattle.std.proofs.lemmas.Iterator.Consumers.{YieldsList-at, YieldsList-from_filter, count_from_yields_List}
use Rattle.std.proofs.lemmas.Iterator.Splits.{YieldsList-from_slice_split}
use Rattle.make_lines.specs.Lines.{passed_over, without_return}
use Rattle.make_lines.proofs.Drafts.{bearing_is}
use Rattle.make_lines.proofs.count_bearing.Goals as goal

pub returns : goal.returns
returns c =
    let v = c.args.values.now in
    count_from_yields_List c.filter.result _ c.count.ensures.ran
    (YieldsList-from_filter _ (λ l. not (passed_over (without_return l)))
    (YieldsList-at c.filter.ensures.source (YieldsList-from_slice_split _ _ v c.split-lines.ensures.rest c.split-lines.ensures.done c.split-lines.ensures.closure (λ x r q k. search (rules, tests))))
    c.filter.ensures.closure (λ x r q k. search (rules, tests)))
    ∙ bearing_is v
