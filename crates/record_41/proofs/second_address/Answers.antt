-- Fields 6 to 9 of a record 41, told sound at once, or row by row, by its own type code.
-- Assumes nothing.
use Rattle.std.proofs.Common.{ℕ, ap, sym, ◌∙◌}
use Rattle.layout.specs.Rows.{first_fault}
use Rattle.layout.proofs.Laws.{sound_of_all}
use Rattle.rules.specs.Layouts.{address41}
use Rattle.record_41.proofs.second_address.Goals as goal

pub returns-then-sound41 : goal.returns-then-sound41
returns-then-sound41 c = λ f ks.
    let r = c.args.r.now in
    sym (sound_of_all f ks r _ (c.sound41.ensures c.if-sound41.true f ks)) ∙ ap (λ (code : ℕ). first_fault f ks r (address41 code)) c.code_at-code.ensures
