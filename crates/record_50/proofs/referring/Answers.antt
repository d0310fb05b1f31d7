-- Fields 1 to 6 of a record 50: told sound at once, or looked through for their first fault.
-- Assumes nothing.
use Rattle.std.proofs.Common.{ℕ, ◌≡◌, ◌∙◌, refl, sym, List, Err, arith}
use Rattle.std.specs.Prelude.{if◌then◌else◌}
use Rattle.fields.specs.Bytes.{part}
use Rattle.fields.proofs.Tests.{and_left, and_right}
use Rattle.figures.specs.declared.totals.Totals.{Totals}
use Rattle.layout.specs.Findings.{fault, sound}
use Rattle.layout.specs.declared.Reason.TheVariants.{WrongForm}
use Rattle.layout.specs.Rows.{AllHold, first_fault}
use Rattle.layout.proofs.Laws.{both_hold}
use Rattle.rules.specs.Codes.{service_code}
use Rattle.rules.specs.Layouts.{head50, kid50}
use Rattle.rules.specs.Payments.{is_kid_of}
use Rattle.record_shared.proofs.Pieces.{past, ends}
use Rattle.record_50.proofs.referring.Goals as goal

kid_is : (f : Totals) (ks r : List ℕ) → first_fault f ks r (kid50 r) ≡ (if is_kid_of (service_code r) (part 16 40 r) then sound else Err (fault WrongForm 6))
unfolding first_fault
kid_is f ks r = refl

pub returns-then-headed-kid_sound : goal.returns-then-headed-kid_sound
unfolding AllHold
returns-then-headed-kid_sound c = λ f ks.
    let a = c.args.a.now in
    let r = c.args.r.now in
    both_hold f ks r (head50 a r) (kid50 r) (c.headed.ensures (and_left c.headed.result c.kid_sound.result c.if-headed-kid_sound.true) f ks)
    (sym c.kid_sound.ensures ∙ and_right c.headed.result c.kid_sound.result c.if-headed-kid_sound.true, tt)

pub returns-in_err-heading : goal.returns-in_err-heading
returns-in_err-heading c = λ f ks.
    let a = c.args.a.now in
    let r = c.args.r.now in
    grind (arith, ends f ks r (head50 a r) (kid50 r) (sym (c.heading.ensures f ks) ∙ c.in_err-heading.was))

pub returns : goal.returns
returns c = λ f ks.
    let a = c.args.a.now in
    let r = c.args.r.now in
    grind (arith, past f ks r (head50 a r) (kid50 r) (sym (c.heading.ensures f ks) ∙ c.in_ok-heading.was), kid_is f ks r)
