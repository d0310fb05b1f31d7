use Rattle.laws.proofs.Saved.{closed_saved}
use Rattle.pay.proofs.close.Goals as goal

pub keep-requires : goal.keep-requires
keep-requires g c = (closed_saved _ _ _ _ _ _ c.close.ensures c.in-Ok.is).fits
