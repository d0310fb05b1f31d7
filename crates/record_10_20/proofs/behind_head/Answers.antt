-- Two digit fields, each of which ends the check, then their key among those before, then the rest.
-- Assumes nothing.
use Rattle.std.proofs.Common.{arith}
use Rattle.fields.specs.Numbers.{number_of}
use Rattle.layout.specs.Rows.{first_fault}
use Rattle.record_shared.proofs.Pieces.{read_below}
use Rattle.record_10_20.proofs.behind_head.Goals as goal

pub returns-in_err-agreement : goal.returns-in_err-agreement
unfolding first_fault number_of
returns-in_err-agreement c = λ f. grind arith

pub returns-in_err-number : goal.returns-in_err-number
unfolding first_fault number_of
returns-in_err-number c = λ f. grind arith

pub joined-key-requires : goal.joined-key-requires
joined-key-requires c =
    let r = c.args.r.now in
    (omega (arith, read_below 9 17 5 r _ (omega arith) c.in_ok-agreement.ensures), omega (arith, read_below 18 24 6 r _ (omega arith) c.in_ok-number.ensures))

pub returns-in_err-demand : goal.returns-in_err-demand
unfolding first_fault number_of
returns-in_err-demand c = λ f. grind arith

pub returns-in_err-tail : goal.returns-in_err-tail
unfolding first_fault number_of
returns-in_err-tail c = λ f. grind (arith, c.tail.ensures f c.args.keys.now)

pub returns : goal.returns
unfolding first_fault number_of
returns c = λ f. grind (arith, c.tail.ensures f c.args.keys.now)
