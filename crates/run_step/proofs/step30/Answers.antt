-- The step of a record 30: what its check found, and the payment that it brought, for which the sums have room.
-- Assumes nothing.
use native.Mathlib.Omega.{arith}
use mathlib.Core.Path.{◌≡◌, ap}
use mathlib.Core.List.{[]}
use Rattle.figures.specs.declared.amounts.Amount.{Amount}
use Rattle.record_30.specs.declared.Payment.{Payment}
use Rattle.rules.specs.Payments.{amount_in}
use Rattle.rules.specs.declared.Kind.TheVariants.{R30}
use Rattle.run_step.proofs.Steps.{stop_at, next_at, holds_at, value_at}
use Rattle.run_step.proofs.Bounds.{Paying, pays, room_for, within_by}
use Rattle.run_step.proofs.step30.Goals.{After-code_at-code}
use Rattle.run_step.proofs.step30.Goals as goal

-- past the check the record is sound: its amount, and the sums that take it
amount-is : (c : After-code_at-code) → c.in_ok-paid.paid.amount ≡ amount_in c.args.r.now
amount-is c = let a = c.args in ap (λ (p : Payment). p.amount) (value_at R30 a.w a.st [] a.r.now _ (c.check30.ensures []) c.in_ok-paid.was)

paying : (c : After-code_at-code) → let a = c.args in Paying a.st.file a.st.assignment (amount_in a.r.now)
paying c = let a = c.args in pays a.st.file [] a.w a.st.assignment a.r.now (holds_at R30 a.w a.st [] a.r.now _ (c.check30.ensures []) c.in_ok-paid.was)

pub returns-in_err-paid : goal.returns-in_err-paid
returns-in_err-paid c = λ ks.
    let a = c.args in
    grind (arith, stop_at R30 a.w a.st ks a.r.now _ (c.check30.ensures ks) c.in_err-paid.was)

pub with_transaction-requires : goal.with_transaction-requires
with_transaction-requires c =
    let before = (goal.at.with_transaction-requires c).After-code_at-code in
    room_for c.args.st _ _ c.requires (amount-is before) (paying before)

pub pay-requires : goal.pay-requires
pay-requires c =
    let before = (goal.at.pay-requires c).After-code_at-code in
    (c.requires.assignment, within_by _ (ap (λ (x : Amount). x.0) (amount-is before)) (paying before).file)

pub returns : goal.returns
returns c = λ ks.
    let a = c.args in
    next_at R30 a.w a.st ks a.r.now _ (c.check30.ensures ks) c.in_ok-paid.was _ (λ e. simp (c.with_transaction.ensures, c.pay.ensures, c.code_at-code.ensures, e))
