-- Record 49: a fault in what it repeats ends it, and else its own fields say what it is and where it stands.
-- Assumes nothing.
use Rattle.std.proofs.Common.{◌∙◌, sym, arith}
use Rattle.rules.specs.Layouts.{repeats, fields49}
use Rattle.record_shared.proofs.Pieces.{past, ends}
use Rattle.record_49.proofs.check49.Goals as goal

pub returns-in_err-repeating : goal.returns-in_err-repeating
returns-in_err-repeating c = λ f ks.
    let s = c.args in
    let r = s.r.now in
    grind (arith, ends f ks r (repeats s.a r) (fields49 s.a.places r) (sym (c.repeating.ensures f ks) ∙ c.in_err-repeating.was))

pub returns : goal.returns
returns c = λ f ks.
    let s = c.args in
    let r = s.r.now in
    grind (arith, past f ks r (repeats s.a r) (fields49 s.a.places r) (sym (c.repeating.ensures f ks) ∙ c.in_ok-repeating.was), c.own_fields.ensures f ks)
