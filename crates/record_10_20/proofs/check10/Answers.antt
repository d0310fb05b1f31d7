-- Fixed fields, two digit fields, each of which ends the check, and the rest row by row.
-- Assumes nothing.
use Rattle.std.proofs.Common.{arith}
use Rattle.fields.specs.Numbers.{number_of}
use Rattle.layout.specs.Rows.{first_fault}
use Rattle.record_10_20.proofs.check10.Goals as goal

pub returns-in_err-outside : goal.returns-in_err-outside
unfolding first_fault number_of
returns-in_err-outside c = λ f ks. grind (arith, c.outside.ensures f ks)

pub returns-in_err-digits_at : goal.returns-in_err-digits_at
unfolding first_fault number_of
returns-in_err-digits_at c = λ f ks. grind (arith, c.outside.ensures f ks)

pub returns-in_err-digits_at-2 : goal.returns-in_err-digits_at-2
unfolding first_fault number_of
returns-in_err-digits_at-2 c = λ f ks. grind (arith, c.outside.ensures f ks)

pub returns-in_err-demand : goal.returns-in_err-demand
unfolding first_fault number_of
returns-in_err-demand c = λ f ks. grind (arith, c.outside.ensures f ks)

pub returns : goal.returns
unfolding first_fault number_of
returns c = λ f ks. grind (arith, c.outside.ensures f ks)
