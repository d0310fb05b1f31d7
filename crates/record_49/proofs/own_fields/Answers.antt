-- Fields 6 on of a 49: the rows of service 04, or those of service 01.
-- Assumes nothing.
use Rattle.std.proofs.Common.{ℕ, ◌∙◌, ◌≡◌, false, sym, ap, arith}
use borrow.Author.Tests.{eq-eqb, ne_eqb}
use lib.Dec.{eqb}
use Rattle.layout.proofs.Laws.{next, stop}
use Rattle.rules.specs.Codes.{service_code}
use Rattle.rules.specs.Fields.{message_of, message01}
use Rattle.rules.specs.Layouts.{notification49, a_notification, message49}
use Rattle.record_49.proofs.own_fields.Goals.{Else-code_at-eq4}
use Rattle.record_49.proofs.own_fields.Goals as goal

-- a service code other than 04
other : (p : Else-code_at-eq4) → eqb (service_code p.args.r.now) 4 ≡ false
other p = ap (λ (n : ℕ). eqb n 4) (sym p.code_at.ensures) ∙ ne_eqb _ _ p.if-code_at-eq4.false

pub returns-then-code_at-eq4 : goal.returns-then-code_at-eq4
unfolding notification49 message_of
returns-then-code_at-eq4 c = λ f ks. rw (ap (λ (n : ℕ). eqb n 4) (sym c.code_at.ensures) ∙ eq-eqb _ _ c.if-code_at-eq4.true) (c.message.ensures f ks)

pub returns-in_err-demand : goal.returns-in_err-demand
unfolding notification49 message_of
returns-in_err-demand c = λ f ks.
    let s = c.args in
    rw (other (goal.at.returns-in_err-demand c).Else-code_at-eq4) (grind (arith, stop f ks s.r.now a_notification (message49 message01 s.places s.r.now)))

pub returns : goal.returns
unfolding notification49 message_of
returns c = λ f ks.
    let s = c.args in
    rw (other (goal.at.returns c).Else-code_at-eq4) (grind (arith, next f ks s.r.now a_notification (message49 message01 s.places s.r.now), c.message-2.ensures f ks))
