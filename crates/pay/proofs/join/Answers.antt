use Rattle.laws.proofs.Saved.{joined_saved}
use Rattle.pay.proofs.join.Goals as goal

pub keep-requires : goal.keep-requires
keep-requires g c = (joined_saved _ _ _ _ _ _ _ c.join.ensures c.in-Ok.is).fits
