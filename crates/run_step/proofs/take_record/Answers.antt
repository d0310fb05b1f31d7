-- The line feed and the order are demanded first; past both the step is that of the record's type.
-- Assumes nothing.
use Rattle.std.proofs.Common.{Err}
use native.Mathlib.Omega.{arith}
use mathlib.Core.Path.{ap, sym, ◌∙◌}
use mathlib.Core.Bool.{false≢true}
use Rattle.rules.specs.Order.{may_follow}
use Rattle.run_step.proofs.Steps.{unmet, met, by_kind, no_line_feed, not_here, feed, never_other, took_stop, took_here}
use Rattle.run_step.proofs.take_record.Goals as goal

pub returns-in_err-demand : goal.returns-in_err-demand
returns-in_err-demand c =
    let a = c.args in
    let u = unmet _ _ _ c.demand.ensures c.in_err-demand.was in
    took_stop _ _ a.st a.r.now a.keys.now a.figures.now c.from_residual.result c.in_err-demand.field-0.0 (grind arith)
    (ap Err u.1 ∙ sym (no_line_feed a.mode a.w a.st _ a.r.now (feed a.r.now c.told-r ∙ u.0)))

pub returns-in_err-demand-2 : goal.returns-in_err-demand-2
returns-in_err-demand-2 c =
    let a = c.args in
    let u = unmet _ _ _ c.demand-2.ensures c.in_err-demand-2.was in
    took_stop _ _ a.st a.r.now a.keys.now a.figures.now c.from_residual-in_err-demand-2.result c.in_err-demand-2.field-0.0 (grind arith)
    (
    ap Err u.1 ∙ sym (not_here a.mode a.w a.st _ a.r.now (feed a.r.now c.told-r ∙ met _ _ _ c.demand.ensures c.in_ok-demand.was) (ap (may_follow a.mode a.st.assignment) (sym c.kind_of-kind.ensures) ∙ sym c.may_follow.ensures ∙ u.0))
    )

pub step_for-requires : goal.step_for-requires
step_for-requires c =
    let a = c.args in
    let follows = sym c.may_follow.ensures ∙ met _ _ _ c.demand-2.ensures c.in_ok-demand-2.was in
    (c.requires, λ e. false≢true (sym (never_other a.mode a.st.assignment) ∙ ap (may_follow a.mode a.st.assignment) (sym e) ∙ follows))

pub returns : goal.returns
returns c =
    let a = c.args in
    let kind = c.kind_of-kind.ensures in
    took_here _ _ a.w a.st a.r.now a.keys.now a.figures.now _ _ _ _ c.step_for.ensures kind
    (by_kind a.mode a.w a.st _ a.r.now (feed a.r.now c.told-r ∙ met _ _ _ c.demand.ensures c.in_ok-demand.was)
    (ap (may_follow a.mode a.st.assignment) (sym kind) ∙ sym c.may_follow.ensures ∙ met _ _ _ c.demand-2.ensures c.in_ok-demand-2.was))
