use mathlib.Core.Path.{sym}
use lib.Seq.{length-take-le}
use Rattle.laws.proofs.Saved.{parted_saved}
use Rattle.pay.proofs.part.Goals as goal

pub slice_bounds-keep_parts-end : goal.slice_bounds-keep_parts-end
slice_bounds-keep_parts-end g c = (parted_saved _ _ _ _ _ _ _ _ _ _ c.part.ensures c.in-Ok.is).0.fits

pub slice_bounds-keep_parts-end-in-Ok : goal.slice_bounds-keep_parts-end-in-Ok
slice_bounds-keep_parts-end-in-Ok g c = sym (length-take-le _ _ (parted_saved _ _ _ _ _ _ _ _ _ _ c.part.ensures c.in-Ok.is).0.fits)

pub slice_bounds-keep_parts-end-in-Ok-2 : goal.slice_bounds-keep_parts-end-in-Ok-2
slice_bounds-keep_parts-end-in-Ok-2 g c = (parted_saved _ _ _ _ _ _ _ _ _ _ c.part.ensures c.in-Ok.is).1.fits

pub slice_bounds-keep_parts-end-in-Ok-3 : goal.slice_bounds-keep_parts-end-in-Ok-3
slice_bounds-keep_parts-end-in-Ok-3 g c = sym (length-take-le _ _ (parted_saved _ _ _ _ _ _ _ _ _ _ c.part.ensures c.in-Ok.is).1.fits)
