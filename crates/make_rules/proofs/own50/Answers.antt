-- Record 50: the service, 16 or 17, the number, a KID, an amount.
-- Assumes nothing.
use Rattle.std.proofs.Common.{arith}
use mathlib.Core.List.{[], ◌∷◌, ◌++◌}
use mathlib.Core.Path.{◌≡◌}
use Rattle.layout.specs.Rows.{at, first_fault}
use Rattle.layout.specs.Rules.{listed, one_of}
use Rattle.layout.proofs.Laws.{goes_on}
use Rattle.rules.specs.Alone.{own_table, own_rows}
use Rattle.rules.specs.Codes.{service_code}
use Rattle.rules.specs.Payments.{kid_of}
use Rattle.make_rules.specs.Pieces.{numbered, serviced, specified}
use Rattle.make_rules.proofs.own50.Goals as goal

pub returns-in_err-service : goal.returns-in_err-service
unfolding own_table own_rows first_fault one_of
returns-in_err-service c = λ f ks. grind (arith, c.service.ensures f ks)

pub returns-in_err-demand : goal.returns-in_err-demand
unfolding own_table own_rows first_fault one_of
returns-in_err-demand c = λ f ks. grind (arith, c.service.ensures f ks)

pub returns-in_err-transaction_number : goal.returns-in_err-transaction_number
unfolding own_table own_rows first_fault one_of
returns-in_err-transaction_number c = λ f ks. grind (arith, c.service.ensures f ks, c.transaction_number.ensures f ks)

pub returns-in_err-demand-2 : goal.returns-in_err-demand-2
unfolding own_table own_rows first_fault one_of
returns-in_err-demand-2 c = λ f ks. grind (arith, c.service.ensures f ks, c.transaction_number.ensures f ks)

pub returns : goal.returns
unfolding own_table own_rows first_fault one_of
returns c = λ f ks.
    let r = c.args.r.now in
    let behind = at 3 5 6 (listed ("16" ∷ "17" ∷ [])) ∷ numbered ++ (at 6 16 40 (kid_of (service_code r)) ∷ specified) in
    let rest : c.specifying.result ≡ first_fault f ks r behind = grind (arith, c.transaction_number.ensures f ks, c.specifying.ensures f ks) in
    goes_on f ks r serviced behind (c.service.ensures f ks) c.in_ok-service.was rest
