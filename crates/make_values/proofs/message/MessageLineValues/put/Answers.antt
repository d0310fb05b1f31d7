-- The opening of a 49, the notification code where its service has it, and the message.
-- Assumes nothing.
use borrow.Author.Tests.{eq-eqb, ne_eqb}
use Rattle.write_fields.proofs.Places.{one_byte}
use Rattle.make_values.proofs.Laws.{is_49_01, is_49_04, opened, rest_put}
use Rattle.make_values.proofs.message.MessageLineValues.put.Goals as goal

pub returns-then-self-eq4 : goal.returns-then-self-eq4
returns-then-self-eq4 c =
    let a = c.args.self.now in
    let w1 = opened a.opening.service a.opening.code 49 a.opening.number c.args.r.now c.put.ensures in
    rest_put _ _ (is_49_04 a.opening.service a.opening.code a.opening.number a.line a.column a.text.now (eq-eqb _ _ c.if-self-eq4.true)) w1 c.put_after.ensures

pub returns : goal.returns
returns c =
    let a = c.args.self.now in
    let w1 = opened a.opening.service a.opening.code 49 a.opening.number c.args.r.now c.put.ensures in
    let w2 = one_byte _ w1 c.put_byte.ensures in
    rest_put _ _ (is_49_01 a.opening.service a.opening.code a.opening.number a.line a.column a.text.now (ne_eqb _ _ c.if-self-eq4.false)) w2 c.put_after-2.ensures
