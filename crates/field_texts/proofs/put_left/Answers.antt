use Rattle.field_texts.proofs.Widths.{left_put}
use Rattle.field_texts.proofs.put_left.Goals as goal

pub returns : goal.returns
returns c = left_put _ _ _ _ c.requires c.copy_to.ensures (c.fill.ensures.after (λ y e. e))
