-- Record 31.
-- Assumes nothing.
use Rattle.std.proofs.Common.{arith}
use Rattle.layout.proofs.Laws.{goes_on}
use Rattle.rules.specs.Alone.{own_table, own_rows}
use Rattle.rules.specs.Layouts.{texts31}
use Rattle.make_rules.specs.Pieces.{headed}
use Rattle.make_rules.proofs.Chains.{stops}
use Rattle.make_rules.proofs.own31.Goals as goal

pub returns-in_err-heading : goal.returns-in_err-heading
unfolding own_table own_rows
returns-in_err-heading c = λ f ks.
    let r = c.args.r.now in
    stops f ks r (headed r) texts31 (c.heading.ensures f ks) c.in_err-heading.was (grind arith)

pub returns : goal.returns
unfolding own_table own_rows
returns c = λ f ks.
    let r = c.args.r.now in
    goes_on f ks r (headed r) texts31 (c.heading.ensures f ks) c.in_ok-heading.was (c.texts.ensures f ks)
