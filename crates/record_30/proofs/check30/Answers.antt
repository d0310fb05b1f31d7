-- Record 30, stage by stage: a fault ends it, and each sound stage leaves the rest.
-- Assumes nothing.
use Rattle.std.proofs.Common.{◌∙◌, sym, [], arith}
use Rattle.rules.specs.Layouts.{head30, number30, date30, party30, amount30}
use Rattle.rules.specs.Payments.{date_in, amount_in}
use Rattle.record_shared.proofs.Pieces.{brought, failed, ends}
use Rattle.record_30.specs.Paid.{payment_in}
use Rattle.record_30.proofs.Stages.{behind_head, behind_number, behind_date, behind_party, behind_amount, own_service, past_head, past_number, past_date, past_party, past_amount}
use Rattle.record_30.proofs.check30.Goals as goal

pub returns-in_err-head : goal.returns-in_err-head
returns-in_err-head c = λ ks.
    let s = c.args in
    let r = s.r.now in
    grind (arith, ends s.file ks r (head30 s.a r) (behind_head s.w s.a s.file ks r) (sym (c.head.ensures s.file ks) ∙ c.in_err-head.was))

pub returns-in_err-number : goal.returns-in_err-number
returns-in_err-number c = λ ks.
    let s = c.args in
    let r = s.r.now in
    let head = sym (c.head.ensures s.file ks) ∙ c.in_ok-head.was in
    let fault = failed s.file ks r (number30 s.a r) (payment_in r).number (c.number.ensures s.file ks) c.in_err-number.was in
    grind (arith, past_head s.w s.a s.file ks r head ∙ ends s.file ks r (number30 s.a r) (behind_number s.w s.a s.file ks r) fault)

pub returns-in_err-date : goal.returns-in_err-date
returns-in_err-date c = λ ks.
    let s = c.args in
    let r = s.r.now in
    let head = sym (c.head.ensures s.file ks) ∙ c.in_ok-head.was in
    let number = brought s.file ks r (number30 s.a r) (c.number.ensures s.file ks) c.in_ok-number.was in
    let fault = failed s.file ks r (date30 s.w s.a r) (date_in r) (c.date.ensures s.file ks) c.in_err-date.was in
    grind (arith, past_number s.w s.a s.file ks r head number.0 ∙ ends s.file ks r (date30 s.w s.a r) (behind_date s.w s.a s.file ks r) fault)

pub party-requires : goal.party-requires
party-requires c =
    let s = c.args in
    c.code_for-service.ensures ∙ sym (own_service s.w s.a s.file [] s.r.now (sym (c.head.ensures s.file []) ∙ c.in_ok-head.was))

pub returns-in_err-party : goal.returns-in_err-party
returns-in_err-party c = λ ks.
    let s = c.args in
    let r = s.r.now in
    let head = sym (c.head.ensures s.file ks) ∙ c.in_ok-head.was in
    let number = brought s.file ks r (number30 s.a r) (c.number.ensures s.file ks) c.in_ok-number.was in
    let date = brought s.file ks r (date30 s.w s.a r) (c.date.ensures s.file ks) c.in_ok-date.was in
    let fault = sym (c.party.ensures s.file ks) ∙ c.in_err-party.was in
    grind (arith, past_date s.w s.a s.file ks r head number.0 date.0 ∙ ends s.file ks r (party30 r) (behind_party s.w s.a s.file ks r) fault)

pub returns-in_err-amount : goal.returns-in_err-amount
returns-in_err-amount c = λ ks.
    let s = c.args in
    let r = s.r.now in
    let head = sym (c.head.ensures s.file ks) ∙ c.in_ok-head.was in
    let number = brought s.file ks r (number30 s.a r) (c.number.ensures s.file ks) c.in_ok-number.was in
    let date = brought s.file ks r (date30 s.w s.a r) (c.date.ensures s.file ks) c.in_ok-date.was in
    let party = sym (c.party.ensures s.file ks) ∙ c.in_ok-party.was in
    let fault = failed s.file ks r (amount30 s.a r) (amount_in r) (c.amount.ensures ks) c.in_err-amount.was in
    grind (arith, past_party s.w s.a s.file ks r head number.0 date.0 party ∙ ends s.file ks r (amount30 s.a r) (behind_amount s.w s.a s.file ks r) fault)

pub tail-requires : goal.tail-requires
tail-requires c =
    let s = c.args in
    c.code_for-service.ensures ∙ sym (own_service s.w s.a s.file [] s.r.now (sym (c.head.ensures s.file []) ∙ c.in_ok-head.was))

pub returns-in_err-tail : goal.returns-in_err-tail
returns-in_err-tail c = λ ks.
    let s = c.args in
    let r = s.r.now in
    let head = sym (c.head.ensures s.file ks) ∙ c.in_ok-head.was in
    let number = brought s.file ks r (number30 s.a r) (c.number.ensures s.file ks) c.in_ok-number.was in
    let date = brought s.file ks r (date30 s.w s.a r) (c.date.ensures s.file ks) c.in_ok-date.was in
    let party = sym (c.party.ensures s.file ks) ∙ c.in_ok-party.was in
    let amount = brought s.file ks r (amount30 s.a r) (c.amount.ensures ks) c.in_ok-amount.was in
    grind (arith, past_amount s.w s.a s.file ks r head number.0 date.0 party amount.0 ∙ sym (c.tail.ensures s.file ks) ∙ c.in_err-tail.was)

pub returns : goal.returns
returns c = λ ks.
    let s = c.args in
    let r = s.r.now in
    let head = sym (c.head.ensures s.file ks) ∙ c.in_ok-head.was in
    let number = brought s.file ks r (number30 s.a r) (c.number.ensures s.file ks) c.in_ok-number.was in
    let date = brought s.file ks r (date30 s.w s.a r) (c.date.ensures s.file ks) c.in_ok-date.was in
    let party = sym (c.party.ensures s.file ks) ∙ c.in_ok-party.was in
    let amount = brought s.file ks r (amount30 s.a r) (c.amount.ensures ks) c.in_ok-amount.was in
    grind (arith, past_amount s.w s.a s.file ks r head number.0 date.0 party amount.0 ∙ sym (c.tail.ensures s.file ks) ∙ c.in_ok-tail.was, number.1, date.1, amount.1)
