-- Record 41: a fault in what it repeats ends it, and else its own fields say what it is.
-- Assumes nothing.
use Rattle.std.proofs.Common.{◌∙◌, sym, arith}
use Rattle.rules.specs.Codes.{type_code}
use Rattle.rules.specs.Layouts.{repeats, address41}
use Rattle.record_shared.proofs.Pieces.{past, ends}
use Rattle.record_41.proofs.check41.Goals as goal

pub returns-in_err-repeating : goal.returns-in_err-repeating
returns-in_err-repeating c = λ f ks.
    let s = c.args in
    let r = s.r.now in
    grind (arith, ends f ks r (repeats s.a r) (address41 (type_code r)) (sym (c.repeating.ensures f ks) ∙ c.in_err-repeating.was))

pub returns : goal.returns
returns c = λ f ks.
    let s = c.args in
    let r = s.r.now in
    c.second_address.ensures f ks ∙ sym (past f ks r (repeats s.a r) (address41 (type_code r)) (sym (c.repeating.ensures f ks) ∙ c.in_ok-repeating.was))
