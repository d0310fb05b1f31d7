use Rattle.std.proofs.Common.{◌∙◌}
use Rattle.record_30_values.proofs.Days.{day_by_pairs}
use Rattle.record_30_values.proofs.day_in.Goals as goal

pub returns : goal.returns
returns c = λ n h e. c.day_of.ensures ∙ day_by_pairs c.args.pairs n h e
