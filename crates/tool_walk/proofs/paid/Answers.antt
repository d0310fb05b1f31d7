-- Each of the three numbers, and the payment of them.
-- Assumes nothing.
use Rattle.tool_walk.proofs.Grow.{not_both, paid_is}
use Rattle.layout.proofs.Laws.{digits_fail, value_is}
use native.Mathlib.Omega.{arith}
use Rattle.tool_walk.proofs.paid.Goals as goal

pub returns-in_err-number : goal.returns-in_err-number
returns-in_err-number c = λ p. absurd (not_both p.number (digits_fail _ _ c.number_at.ensures c.in_err-number.was))

pub returns-in_err-ddmmyy : goal.returns-in_err-ddmmyy
returns-in_err-ddmmyy c = λ p. absurd (not_both p.date (digits_fail _ _ c.number_at-2.ensures c.in_err-ddmmyy.was))

pub returns-in_err-amount : goal.returns-in_err-amount
returns-in_err-amount c = λ p. absurd (not_both p.amount (digits_fail _ _ c.number_at-3.ensures c.in_err-amount.was))

pub returns-then-number-gt-LAST_NUMBER : goal.returns-then-number-gt-LAST_NUMBER
returns-then-number-gt-LAST_NUMBER c = λ p. absurd (omega (arith, p.small, value_is _ _ c.number_at.ensures _ c.in_ok-number.was, c.if-number-gt-LAST_NUMBER.true))

pub returns : goal.returns
returns c = paid_is _ _ c.args.r.now _ _ _ _ _ c.with_payment.ensures c.code_at-code.ensures (value_is _ _ c.number_at.ensures _ c.in_ok-number.was) (value_is _ _ c.number_at-2.ensures _ c.in_ok-ddmmyy.was) c.date_from.ensures (value_is _ _ c.number_at-3.ensures _ c.in_ok-amount.was)
