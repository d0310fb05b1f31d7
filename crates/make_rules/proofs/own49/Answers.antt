-- Record 49: with no place taken, its own rows are what its fields are found to be.
-- Assumes nothing.
use Prim.Native.Nat.{ℕ}
use Rattle.std.proofs.Common.{arith, Err}
use mathlib.Core.Path.{◌≡◌, sym, ap, ◌∙◌}
use mathlib.Core.List.{List}
use Rattle.figures.specs.declared.totals.Totals.{Totals}
use Rattle.layout.specs.Findings.{Finding}
use Rattle.layout.specs.Rows.{first_fault}
use Rattle.layout.proofs.Laws.{goes_on}
use Rattle.record_shared.proofs.Pieces.{brought, failed}
use Rattle.rules.specs.Alone.{own_table, own_rows}
use Rattle.rules.specs.Layouts.{fields49}
use Rattle.rules.specs.Messages.{no_places}
use Rattle.rules.specs.declared.Places.{Places}
use Rattle.make_rules.specs.Pieces.{headed}
use Rattle.make_rules.proofs.Chains.{stops}
use Rattle.make_rules.proofs.Messages.{message_alone}
use Rattle.make_rules.proofs.own49.Goals as goal

pub returns-in_err-heading : goal.returns-in_err-heading
unfolding own_table own_rows
returns-in_err-heading c = λ f ks.
    let r = c.args.r.now in
    stops f ks r (headed r) (own_rows r (fields49 no_places r)) (c.heading.ensures f ks) c.in_err-heading.was (grind arith)

-- its own rows, from what its fields are found to be with those places
alone : (f : Totals) (ks r : List ℕ) (ps : Places) {x : Finding} → ps ≡ no_places → x ≡ first_fault f ks r (fields49 ps r) → x ≡ first_fault f ks r (own_rows r (fields49 no_places r))
alone f ks r ps e h = h ∙ ap (λ (qs : Places). first_fault f ks r (fields49 qs r)) e ∙ message_alone f ks r

pub returns-in_err-own_fields : goal.returns-in_err-own_fields
unfolding own_table own_rows
returns-in_err-own_fields c = λ f ks.
    let r = c.args.r.now in
    let fault : c.from_residual-in_err-own_fields.result ≡ Err c.in_err-own_fields.field-0.0 = grind arith in
    goes_on f ks r (headed r) (own_rows r (fields49 no_places r)) (c.heading.ensures f ks) c.in_ok-heading.was
    (alone f ks r c.none.result c.none.ensures (fault ∙ sym (failed f ks r (fields49 c.none.result r) _ (c.own_fields.ensures f ks) c.in_err-own_fields.was)))

pub returns : goal.returns
unfolding own_table own_rows
returns c = λ f ks.
    let r = c.args.r.now in
    goes_on f ks r (headed r) (own_rows r (fields49 no_places r)) (c.heading.ensures f ks) c.in_ok-heading.was
    (alone f ks r c.none.result c.none.ensures (sym (brought f ks r (fields49 c.none.result r) (c.own_fields.ensures f ks) c.in_ok-own_fields.was).0))
