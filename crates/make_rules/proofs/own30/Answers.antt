-- Record 30, field by field.
-- Assumes nothing.
use Rattle.std.proofs.Common.{arith, ◌++◌}
use Rattle.layout.proofs.Laws.{goes_on}
use Rattle.rules.specs.Alone.{own_table, own_rows}
use Rattle.rules.specs.Layouts.{party30, tail30}
use Rattle.make_rules.specs.Pieces.{headed, dated, priced}
use Rattle.make_rules.proofs.Chains.{stops}
use Rattle.make_rules.proofs.own30.Goals as goal

pub returns-in_err-heading : goal.returns-in_err-heading
unfolding own_table own_rows
returns-in_err-heading c = λ f ks.
    let r = c.args.r.now in
    stops f ks r (headed r) (dated ++ party30 r ++ priced r ++ tail30 r) (c.heading.ensures f ks) c.in_err-heading.was (grind arith)

pub returns-in_err-date : goal.returns-in_err-date
unfolding own_table own_rows
returns-in_err-date c = λ f ks.
    let r = c.args.r.now in
    goes_on f ks r (headed r) (dated ++ party30 r ++ priced r ++ tail30 r) (c.heading.ensures f ks) c.in_ok-heading.was
    (stops f ks r dated (party30 r ++ priced r ++ tail30 r) (c.date.ensures f ks) c.in_err-date.was (grind arith))

pub returns-in_err-party : goal.returns-in_err-party
unfolding own_table own_rows
returns-in_err-party c = λ f ks.
    let r = c.args.r.now in
    goes_on f ks r (headed r) (dated ++ party30 r ++ priced r ++ tail30 r) (c.heading.ensures f ks) c.in_ok-heading.was
    (goes_on f ks r dated (party30 r ++ priced r ++ tail30 r) (c.date.ensures f ks) c.in_ok-date.was
    (stops f ks r (party30 r) (priced r ++ tail30 r) (c.party.ensures f ks) c.in_err-party.was (grind arith)))

pub returns-in_err-amount : goal.returns-in_err-amount
unfolding own_table own_rows
returns-in_err-amount c = λ f ks.
    let r = c.args.r.now in
    goes_on f ks r (headed r) (dated ++ party30 r ++ priced r ++ tail30 r) (c.heading.ensures f ks) c.in_ok-heading.was
    (goes_on f ks r dated (party30 r ++ priced r ++ tail30 r) (c.date.ensures f ks) c.in_ok-date.was
    (goes_on f ks r (party30 r) (priced r ++ tail30 r) (c.party.ensures f ks) c.in_ok-party.was
    (stops f ks r (priced r) (tail30 r) (c.amount.ensures f ks) c.in_err-amount.was (grind arith))))

pub returns : goal.returns
unfolding own_table own_rows
returns c = λ f ks.
    let r = c.args.r.now in
    goes_on f ks r (headed r) (dated ++ party30 r ++ priced r ++ tail30 r) (c.heading.ensures f ks) c.in_ok-heading.was
    (goes_on f ks r dated (party30 r ++ priced r ++ tail30 r) (c.date.ensures f ks) c.in_ok-date.was
    (goes_on f ks r (party30 r) (priced r ++ tail30 r) (c.party.ensures f ks) c.in_ok-party.was
    (goes_on f ks r (priced r) (tail30 r) (c.amount.ensures f ks) c.in_ok-amount.was
    (c.tail.ensures f ks))))
