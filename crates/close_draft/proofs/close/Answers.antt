-- 1, then the draft's own refusal, then 19; nothing is written before all is judged.
-- Assumes nothing.
use Rattle.std.proofs.Common.{Some, None}
use mathlib.Core.Path.{◌≡◌, refl, sym, ◌∙◌}
use native.Mathlib.Omega.{arith}
use Rattle.std.proofs.lemmas.Result.{err_from_is_err_and}
use Rattle.run_figures.proofs.Held.{roomy}
use Rattle.close_draft.proofs.Answers.{no_day, not_weighed, no_room, may_write, wrote}
use Rattle.close_draft.proofs.close.Goals as goal

pub returns-in_err-w : goal.returns-in_err-w
returns-in_err-w c =
    let a = c.args in
    let p = err_from_is_err_and c.from_residual.result c.from_residual.ensures.1 in
    let o : c.window.result ≡ None = grind arith in
    let x : c.in_err-w.field-0.0 ≡ c.whole.result = grind arith in
    rw (p.1, p.2) (no_day a.day a.draft.now a.out.now _ (x ∙ c.whole.ensures) (sym c.window.ensures ∙ o))

pub returns-in_err-weighed : goal.returns-in_err-weighed
returns-in_err-weighed c =
    let a = c.args in
    let p = err_from_is_err_and c.from_residual-in_err-weighed.result c.from_residual-in_err-weighed.ensures.1 in
    let o : c.window.result ≡ Some c.in_ok-w.w = grind arith in
    rw (p.1, p.2) (not_weighed a.day a.draft.now a.out.now _ (sym c.window.ensures ∙ o) _ (sym c.in_err-weighed.was ∙ c.weigh.ensures.0))

pub returns-in_err-t : goal.returns-in_err-t
returns-in_err-t c =
    let a = c.args in
    let p = err_from_is_err_and c.from_residual-in_err-t.result c.from_residual-in_err-t.ensures.1 in
    let o : c.window.result ≡ Some c.in_ok-w.w = grind arith in
    rw (p.1, p.2) (no_room a.day a.draft.now a.out.now _ (sym c.window.ensures ∙ o) _ (sym c.in_ok-weighed.was ∙ c.weigh.ensures.0) _ (sym c.in_err-t.was ∙ c.given.ensures))

pub write-requires : goal.write-requires
write-requires c =
    let a = c.args in
    let o : c.window.result ≡ Some c.in_ok-w.w = grind arith in
    may_write a.day a.draft.now a.out.now _ (sym c.window.ensures ∙ o) _ (sym c.in_ok-weighed.was ∙ c.weigh.ensures.0) _ (sym c.given.ensures ∙ c.in_ok-t.was) _ _ c.weigh.ensures.1 c.in_ok-weighed.was (roomy _ _ c.weigh.auto.figures refl)

pub returns : goal.returns
returns c =
    let a = c.args in
    let o : c.window.result ≡ Some c.in_ok-w.w = grind arith in
    wrote a.day a.draft.now a.out.now _ (sym c.window.ensures ∙ o) _ (sym c.in_ok-weighed.was ∙ c.weigh.ensures.0) _ (sym c.given.ensures ∙ c.in_ok-t.was) _ c.write.ensures
