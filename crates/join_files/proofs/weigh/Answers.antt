-- 1, then the first file's refusal, then the second's, then those of both.
-- Assumes nothing.
use Rattle.std.proofs.Common.{Some, None}
use mathlib.Core.Path.{◌≡◌, sym, ap, ap₂, ◌∙◌}
use mathlib.Core.List.{List}
use Prim.Native.Nat.{ℕ}
use native.Mathlib.Omega.{arith}
use Rattle.std.proofs.lemmas.Result.{err_from_is_err_and}
use Rattle.operations.specs.Joining.{sender, weigh_both}
use Rattle.rules.specs.Growth.{all_keys}
use Rattle.rules.specs.Run.{records_of}
use Rattle.join_files.specs.Days.{verdict_of}
use Rattle.join_files.proofs.Answers.{no_day, first_refused, second_refused, both_weighed}
use Rattle.join_files.proofs.weigh.Goals as goal

pub returns-in_err-w : goal.returns-in_err-w
returns-in_err-w c =
    let a = c.args in
    let p = err_from_is_err_and c.from_residual.result c.from_residual.ensures.1 in
    let o : c.window.result ≡ None = grind arith in
    let x : c.in_err-w.field-0.0 ≡ c.whole.result = grind arith in
    rw (p.1, p.2) (no_day a.day a.first.now a.second.now _ (x ∙ c.whole.ensures) (sym c.window.ensures ∙ o))

pub returns-in_err-one : goal.returns-in_err-one
returns-in_err-one c =
    let a = c.args in
    let p = err_from_is_err_and c.from_residual-in_err-one.result c.from_residual-in_err-one.ensures.1 in
    let o : c.window.result ≡ Some c.in_ok-w.w = grind arith in
    rw (p.1, p.2) (first_refused a.day a.first.now a.second.now _ (sym c.window.ensures ∙ o) _ (sym c.judged.ensures.told ∙ ap verdict_of c.in_err-one.was))

pub returns-in_err-other : goal.returns-in_err-other
returns-in_err-other c =
    let a = c.args in
    let p = err_from_is_err_and c.from_residual-in_err-other.result c.from_residual-in_err-other.ensures.1 in
    let o : c.window.result ≡ Some c.in_ok-w.w = grind arith in
    rw (p.1, p.2) (second_refused a.day a.first.now a.second.now _ (sym c.window.ensures ∙ o) _ (sym c.in_ok-one.ensures.told) _ (sym c.judged-2.ensures.told ∙ ap verdict_of c.in_err-other.was))

pub returns : goal.returns
returns c =
    let a = c.args in
    let o : c.window.result ≡ Some c.in_ok-w.w = grind arith in
    let one = c.in_ok-one.one in
    let other = c.in_ok-other.other in
    c.weigh_both.ensures
    ∙ ap₂ (λ (x y : List ℕ). weigh_both (sender x) (all_keys (records_of x)) one.totals (sender y) (records_of y) other.totals) c.in_ok-one.ensures.known.0 c.in_ok-other.ensures.known.0
    ∙ both_weighed a.day a.first.now a.second.now _ (sym c.window.ensures ∙ o) _ (sym c.in_ok-one.ensures.told) _ (sym c.in_ok-other.ensures.told)
