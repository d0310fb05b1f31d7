-- Record 31: told sound at once, or looked through for its first fault.
-- Assumes nothing.
use Rattle.std.proofs.Common.{◌∙◌, sym, arith}
use Rattle.fields.proofs.Tests.{and_left, and_right}
use Rattle.layout.proofs.Laws.{both_hold}
use Rattle.rules.specs.Layouts.{repeats, texts31}
use Rattle.record_shared.proofs.Pieces.{past, ends}
use Rattle.record_31_40.proofs.check31.Goals as goal

pub returns-then-repeats-sound31 : goal.returns-then-repeats-sound31
returns-then-repeats-sound31 c = λ f ks.
    let s = c.args in
    let r = s.r.now in
    let t = c.if-repeats-sound31.true in
    both_hold f ks r (repeats s.a r) texts31 (c.repeats.ensures (and_left c.repeats.result c.sound31.result t) f ks) (c.sound31.ensures (and_right c.repeats.result c.sound31.result t) f ks)

pub returns-in_err-repeating : goal.returns-in_err-repeating
returns-in_err-repeating c = λ f ks.
    let s = c.args in
    let r = s.r.now in
    grind (arith, ends f ks r (repeats s.a r) texts31 (sym (c.repeating.ensures f ks) ∙ c.in_err-repeating.was))

pub returns : goal.returns
returns c = λ f ks.
    let s = c.args in
    let r = s.r.now in
    c.texts.ensures f ks ∙ sym (past f ks r (repeats s.a r) texts31 (sym (c.repeating.ensures f ks) ∙ c.in_ok-repeating.was))
