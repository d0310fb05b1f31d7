-- Assumes nothing.
use mathlib.Core.Path.{ap, ◌∙◌}
use Rattle.std.proofs.Common.{rules, tests}
use Rattle.std.proofs.lemmas.Iterator.{YieldsList-from_slice}
use Rattle.std.proofs.lemmas.Iterator.Consumers.{YieldsList-from_filter, count_from_yields_List}
use Rattle.operations.specs.Closing.{opens, openings}
use Rattle.close_weigh.proofs.Counting.{openings_filter, few_opened}
use Rattle.close_weigh.proofs.openings_in.Goals as goal

pub returns : goal.returns
returns c =
    let d = c.args.draft.now in
    let e = count_from_yields_List c.filter.result _ c.count.ensures.ran (YieldsList-from_filter _ opens (YieldsList-from_slice c.records_of.result.now cc) c.filter.ensures.closure (λ x r q k. search (rules, tests)))
    ∙ openings_filter _ ∙ ap openings c.records_of.ensures.are in
    (e, few_opened d _ e)
