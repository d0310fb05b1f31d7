-- Record 40: told sound at once, or looked through for its first fault.
-- Assumes nothing.
use Rattle.std.proofs.Common.{ℕ, ◌++◌, ◌∙◌, sym, ap, arith}
use Rattle.fields.proofs.Tests.{and_left, and_right}
use Rattle.layout.specs.Rows.{first_fault}
use Rattle.layout.proofs.Laws.{both_hold}
use Rattle.rules.specs.Codes.{type_code}
use Rattle.rules.specs.Layouts.{repeats, address40}
use Rattle.record_shared.proofs.Pieces.{past, ends}
use Rattle.record_31_40.proofs.Both.{same_type}
use Rattle.record_31_40.proofs.check40.Goals as goal

pub returns-then-repeats-sound40 : goal.returns-then-repeats-sound40
returns-then-repeats-sound40 c = λ f ks.
    let s = c.args in
    let r = s.r.now in
    let t = c.if-repeats-sound40.true in
    let top = c.repeats.ensures (and_left c.repeats.result c.sound40.result t) f ks in
    both_hold f ks r (repeats s.a r) (address40 s.a.code) top (c.sound40.ensures (and_right c.repeats.result c.sound40.result t) f ks)
    ∙ ap (λ (code : ℕ). first_fault f ks r (repeats s.a r ++ address40 code)) (same_type f ks r s.a top)

pub returns-in_err-repeating : goal.returns-in_err-repeating
returns-in_err-repeating c = λ f ks.
    let s = c.args in
    let r = s.r.now in
    grind (arith, ends f ks r (repeats s.a r) (address40 (type_code r)) (sym (c.repeating.ensures f ks) ∙ c.in_err-repeating.was))

pub returns : goal.returns
returns c = λ f ks.
    let s = c.args in
    let r = s.r.now in
    c.address.ensures f ks ∙ sym (past f ks r (repeats s.a r) (address40 (type_code r)) (sym (c.repeating.ensures f ks) ∙ c.in_ok-repeating.was))
