use Prim.Native.Nat.{ℕ, ◌-◌, ◌%◌}
use mathlib.Core.Path.{◌≡◌, sym, ap, ◌∙◌}
use native.Mathlib.Omega.{arith}
use Rattle.field_bytes.proofs.Every.{digit_at}
use Rattle.field_accounts.specs.Accounts.{judged, last_digit, weighted, weights}
use Rattle.field_accounts.proofs.Weights.{digits_over, digits_judged, no_digits}
use Rattle.field_accounts.proofs.account_of.Goals as goal

pub returns-then-not-eleven_digits : goal.returns-then-not-eleven_digits
returns-then-not-eleven_digits c = sym (no_digits _ (sym c.if-not-eleven_digits.ensures))

pub overflow_sub-s : goal.overflow_sub-s
overflow_sub-s c = (digit_at _ 10 (sym c.if-not-eleven_digits.ensures) (omega arith)).0

pub overflow_sub-weigh : goal.overflow_sub-weigh
overflow_sub-weigh c =
    omega (arith, c.weigh.ensures, digits_over c.args.s.now c.requires (sym c.if-not-eleven_digits.ensures))

pub returns : goal.returns
returns c =
    let s = c.args.s.now in
    let digits = sym c.if-not-eleven_digits.ensures in
    let rest : c.weigh.result - 1968 ≡ weighted weights s = omega (arith, c.weigh.ensures, digits_over s c.requires digits) in
    c.judge.ensures ∙ ap (λ (n : ℕ). judged (last_digit s) (n % 11)) rest ∙ sym (digits_judged s digits)
