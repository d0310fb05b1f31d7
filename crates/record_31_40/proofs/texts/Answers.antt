-- Fields 6 to 9 of a record 31, told sound at once, or row by row.
-- Assumes nothing.
use Rattle.std.proofs.Common.{sym}
use Rattle.layout.proofs.Laws.{sound_of_all}
use Rattle.record_31_40.proofs.texts.Goals as goal

pub returns-then-sound31 : goal.returns-then-sound31
returns-then-sound31 c = λ f ks. sym (sound_of_all f ks c.args.r.now _ (c.sound31.ensures c.if-sound31.true f ks))
