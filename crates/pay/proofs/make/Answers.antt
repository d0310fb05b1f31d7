use Rattle.make_lines.proofs.Saved.{draft_saved}
use Rattle.pay.proofs.make.Goals as goal

pub keep_draft-requires : goal.keep_draft-requires
keep_draft-requires g c = (draft_saved _ _ _ _ _ c.make_draft.ensures c.in-Ok.is).fits
