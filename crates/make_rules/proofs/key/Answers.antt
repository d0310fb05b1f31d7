-- Two fields of digits.
-- Assumes nothing.
use Rattle.std.proofs.Common.{arith}
use Rattle.fields.specs.Numbers.{number_of}
use Rattle.layout.specs.Rows.{first_fault}
use Rattle.make_rules.proofs.key.Goals as goal

pub returns-in_err-digits_at : goal.returns-in_err-digits_at
unfolding first_fault number_of
returns-in_err-digits_at c = λ f ks. grind arith

pub returns-in_err-digits_at-2 : goal.returns-in_err-digits_at-2
unfolding first_fault number_of
returns-in_err-digits_at-2 c = λ f ks. grind arith

pub returns : goal.returns
unfolding first_fault number_of
returns c = λ f ks. grind arith
