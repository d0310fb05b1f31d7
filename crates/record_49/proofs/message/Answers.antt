-- A message from its line on: its place, then text and filler; the places taken are those of the stage of the place.
-- Assumes nothing.
use Rattle.std.proofs.Common.{ℕ, ◌+◌, ◌≡◌, refl, List, [], ◌∷◌, Err, arith}
use Rattle.std.specs.Prelude.{if◌then◌else◌}
use Rattle.fields.specs.Bytes.{every, is_text, is_zero, part}
use Rattle.figures.specs.declared.totals.Totals.{Totals}
use Rattle.layout.specs.Findings.{fault, sound}
use Rattle.layout.specs.declared.Reason.TheVariants.{NotFixed, WrongForm}
use Rattle.layout.specs.Rules.{textual, zeros}
use Rattle.layout.specs.Rows.{Row, first_fault}
use Rattle.rules.specs.Fields.{on}
use Rattle.rules.specs.Layouts.{place49}
use Rattle.rules.specs.Messages.{with_at}
use Rattle.record_shared.proofs.Pieces.{past, ends, brought, failed}
use Rattle.record_49.specs.Found.{message_from}
use Rattle.record_49.proofs.message.Goals as goal

-- what stands behind the place
abbrev behind : ℕ → ℕ → List Row
behind k p = on (message_from k p).text textual ∷ on (message_from k p).filler zeros ∷ []

behind_is : (f : Totals) (ks r : List ℕ) (k p : ℕ)
    → first_fault f ks r (behind k p)
    ≡ (if every is_text (part (p + 4) (p + 43) r) then (if every is_zero (part (p + 44) 80 r) then sound else Err (fault NotFixed (k + 3))) else Err (fault WrongForm (k + 2)))
unfolding first_fault
behind_is f ks r k p = refl

pub returns-in_err-after : goal.returns-in_err-after
returns-in_err-after c = λ f ks.
    let s = c.args in
    let r = s.r.now in
    let m = message_from s.field s.from in
    let fault = failed f ks r (place49 m s.places r) (with_at m s.places r) (c.placing.ensures f ks) c.in_err-after.was in
    grind (arith, ends f ks r (place49 m s.places r) (behind s.field s.from) fault)

pub returns-in_err-demand : goal.returns-in_err-demand
returns-in_err-demand c = λ f ks.
    let s = c.args in
    let r = s.r.now in
    let m = message_from s.field s.from in
    let place = brought f ks r (place49 m s.places r) (c.placing.ensures f ks) c.in_ok-after.was in
    grind (arith, past f ks r (place49 m s.places r) (behind s.field s.from) place.0, behind_is f ks r s.field s.from, place.1)

pub returns-in_err-demand-2 : goal.returns-in_err-demand-2
returns-in_err-demand-2 c = λ f ks.
    let s = c.args in
    let r = s.r.now in
    let m = message_from s.field s.from in
    let place = brought f ks r (place49 m s.places r) (c.placing.ensures f ks) c.in_ok-after.was in
    grind (arith, past f ks r (place49 m s.places r) (behind s.field s.from) place.0, behind_is f ks r s.field s.from, place.1)

pub returns : goal.returns
returns c = λ f ks.
    let s = c.args in
    let r = s.r.now in
    let m = message_from s.field s.from in
    let place = brought f ks r (place49 m s.places r) (c.placing.ensures f ks) c.in_ok-after.was in
    grind (arith, past f ks r (place49 m s.places r) (behind s.field s.from) place.0, behind_is f ks r s.field s.from, place.1)
