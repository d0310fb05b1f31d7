-- 2, then 3, then what the records give.
-- Assumes nothing.
use Rattle.std.proofs.Common.{Ok, Err}
use mathlib.Core.Path.{sym, ap, ◌∙◌}
use native.Mathlib.Omega.{arith}
use Rattle.std.proofs.lemmas.Result.{err_from_is_err_and}
use Rattle.close_weigh.proofs.Counting.{few_opened}
use Rattle.close_weigh.proofs.Answers.{wrong_length, full, too_many_opened, weighs, can_close, leaves_none, leaves_figures}
use Rattle.close_weigh.proofs.weigh.Goals as goal

pub returns-then-bad_length : goal.returns-then-bad_length
returns-then-bad_length c =
    let a = c.args in
    (ap Err c.whole.ensures ∙ wrong_length a.w a.draft.now _ c.bad_length.ensures c.if-bad_length.true, leaves_none _ _ _)

pub returns-then-count-ge-MOST_RECORDS : goal.returns-then-count-ge-MOST_RECORDS
returns-then-count-ge-MOST_RECORDS c =
    let a = c.args in
    (ap Err c.whole-then-count-ge-MOST_RECORDS.ensures ∙ full a.w a.draft.now _ c.bad_length.ensures c.if-bad_length.false (omega arith), leaves_none _ _ _)

pub overflow_add-count : goal.overflow_add-count
overflow_add-count c = omega (arith, few_opened c.args.draft.now _ (c.opened.ensures c.args.w c.run_over-ran.ensures.verdict))

pub overflow_add-count-2 : goal.overflow_add-count-2
overflow_add-count-2 c = omega (arith, few_opened c.args.draft.now _ (c.opened.ensures c.args.w c.run_over-ran.ensures.verdict))

pub returns-then-count-opened-gt-MOST_RECORDS : goal.returns-then-count-opened-gt-MOST_RECORDS
returns-then-count-opened-gt-MOST_RECORDS c =
    let a = c.args in
    let o = c.opened.ensures a.w c.run_over-ran.ensures.verdict in
    (ap Err c.whole-then-count-opened-gt-MOST_RECORDS.ensures ∙ too_many_opened a.w a.draft.now _ c.bad_length.ensures c.if-bad_length.false _ o c.if-count-opened-gt-MOST_RECORDS.true, leaves_none _ _ _)

pub returns-in_err-ran : goal.returns-in_err-ran
returns-in_err-ran c =
    let a = c.args in
    let o = c.opened.ensures a.w c.run_over-ran.ensures.verdict in
    let p = err_from_is_err_and c.from_residual.result c.from_residual.ensures.1 in
    rw (p.1, p.2) (weighs a.w a.draft.now _ c.bad_length.ensures c.if-bad_length.false _ o c.if-count-opened-gt-MOST_RECORDS.false (Err _) (sym c.in_err-ran.was ∙ c.run_over-ran.ensures.verdict), leaves_none _ _ _)

pub closed_figures-requires : goal.closed_figures-requires
closed_figures-requires c =
    let a = c.args in
    can_close a.w a.draft.now (omega arith) _ (sym c.run_over-ran.ensures.verdict ∙ c.in_ok-ran.was)

pub returns : goal.returns
returns c =
    let a = c.args in
    let o = c.opened.ensures a.w c.run_over-ran.ensures.verdict in
    (ap Ok c.closed_figures.ensures ∙ weighs a.w a.draft.now _ c.bad_length.ensures c.if-bad_length.false _ o c.if-count-opened-gt-MOST_RECORDS.false (Ok _) (sym c.in_ok-ran.was ∙ c.run_over-ran.ensures.verdict), leaves_figures _ _ _ _ _ c.run_over-ran.ensures.leaves c.in_ok-ran.was _)
