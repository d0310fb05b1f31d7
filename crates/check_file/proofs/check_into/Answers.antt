use Rattle.std.proofs.Common.{Err, Option}
use mathlib.Core.Path.{◌≡◌, sym, ap, ◌∙◌}
use native.Mathlib.Omega.{arith}
use Rattle.std.specs.Option.{ok_or}
use Rattle.dates.specs.declared.Window.{Window}
use Rattle.rules.specs.Run.{judge, check_of}
use Rattle.check_file.proofs.Whole.{no_day, on_day, leaves_none}
use Rattle.check_file.proofs.check_into.Goals as goal

pub returns-in_err-w : goal.returns-in_err-w
unfolding check_of
returns-in_err-w c =
    let a = c.args in
    let e : c.from_residual.result ≡ Err c.in_err-w.field-0.0 = grind arith in
    let n = no_day _ _ _ (λ w. judge w a.file.now) (sym c.in_err-w.was ∙ c.ok_or.ensures.value ∙ ap (λ (o : Option Window). ok_or o c.whole.result) c.window.ensures) in
    (e ∙ ap Err (n.0 ∙ c.whole.ensures) ∙ n.1, leaves_none _ _ _ _ _ e)

pub returns : goal.returns
unfolding check_of
returns c =
    let a = c.args in (
      c.judge.ensures.0
          ∙ on_day _ _ _ (λ w. judge w a.file.now) (sym c.in_ok-w.was ∙ c.ok_or.ensures.value ∙ ap (λ (o : Option Window). ok_or o c.whole.result) c.window.ensures),
      c.judge.ensures.1,
    )
