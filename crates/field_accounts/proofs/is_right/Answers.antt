-- An account told right by one division; the eleven bytes and their sum are in Multiples.
-- Assumes nothing.
use mathlib.Core.Path.{sym, ap}
use native.Mathlib.Omega.{arith}
use Rattle.field_accounts.specs.Accounts.{is_right}
use Rattle.field_accounts.proofs.Weights.{no_digits}
use Rattle.field_accounts.proofs.Multiples.{all_low, all_high, right_sum}
use Rattle.field_accounts.proofs.is_right.Goals as goal

pub returns-then-not-eleven_digits : goal.returns-then-not-eleven_digits
returns-then-not-eleven_digits c = sym (ap is_right (no_digits _ (sym c.if-not-eleven_digits.ensures)))

pub overflow_add-result : goal.overflow_add-result
overflow_add-result c =
    omega (arith, c.weigh.ensures, c.from.ensures, all_high c.args.s.now c.requires (sym c.if-not-eleven_digits.ensures))

pub overflow_sub-result : goal.overflow_sub-result
overflow_sub-result c =
    omega (arith, c.weigh.ensures, c.from.ensures, all_low c.args.s.now c.requires (sym c.if-not-eleven_digits.ensures))

pub returns : goal.returns
returns c = rw (c.weigh.ensures, c.from.ensures) (right_sum c.args.s.now c.requires (sym c.if-not-eleven_digits.ensures))
