use Rattle.field_texts.proofs.Widths.{right_put}
use Rattle.field_texts.proofs.put_right.Goals as goal

pub returns : goal.returns
returns c = right_put _ _ _ _ c.requires (c.fill.ensures.after (λ y e. e)) c.copy_from_slice.ensures.after
