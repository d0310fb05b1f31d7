-- Record 50, stage by stage: fields 1 to 6, the amount, the zeros; the amount of a sound record is that of its stage.
-- Assumes nothing.
use Rattle.std.proofs.Common.{ℕ, ◌≡◌, ◌∙◌, refl, sym, List, [], ◌∷◌, ◌++◌, Err, arith}
use Rattle.std.specs.Prelude.{if◌then◌else◌}
use Rattle.fields.specs.Bytes.{every, is_zero, part}
use Rattle.figures.specs.Figures.{amount}
use Rattle.figures.specs.declared.totals.Totals.{Totals}
use Rattle.layout.specs.Findings.{fault, sound}
use Rattle.layout.specs.declared.Reason.TheVariants.{NotFixed}
use Rattle.layout.specs.Rules.{zeros}
use Rattle.layout.specs.Rows.{Row, at, first_fault}
use Rattle.rules.specs.Layouts.{head50, kid50, sum50, amount50}
use Rattle.rules.specs.declared.Assignment.{Assignment}
use Rattle.record_shared.proofs.Pieces.{past, ends, brought, failed}
use Rattle.record_50.proofs.check50.Goals as goal

-- fields 1 to 6, and field 8
abbrev front : Assignment → List ℕ → List Row
front a r = head50 a r ++ kid50 r

abbrev last : List Row
last = at 8 58 80 zeros ∷ []

last_is : (f : Totals) (ks r : List ℕ) → first_fault f ks r last ≡ (if every is_zero (part 58 80 r) then sound else Err (fault NotFixed 8))
unfolding first_fault
last_is f ks r = refl

pub returns-in_err-referring : goal.returns-in_err-referring
returns-in_err-referring c = λ f ks.
    let s = c.args in
    let r = s.r.now in
    grind (arith, ends f ks r (front s.a r) (sum50 s.a r ++ last) (sym (c.referring.ensures f ks) ∙ c.in_err-referring.was))

pub returns-in_err-amount : goal.returns-in_err-amount
returns-in_err-amount c = λ f ks.
    let s = c.args in
    let r = s.r.now in
    let front_sound = past f ks r (front s.a r) (sum50 s.a r ++ last) (sym (c.referring.ensures f ks) ∙ c.in_ok-referring.was) in
    let fault = failed f ks r (sum50 s.a r) (amount (amount50 r)) (c.specifying.ensures f ks) c.in_err-amount.was in
    grind (arith, front_sound ∙ ends f ks r (sum50 s.a r) last fault)

pub returns-in_err-demand : goal.returns-in_err-demand
returns-in_err-demand c = λ f ks.
    let s = c.args in
    let r = s.r.now in
    let front_sound = past f ks r (front s.a r) (sum50 s.a r ++ last) (sym (c.referring.ensures f ks) ∙ c.in_ok-referring.was) in
    let sum = brought f ks r (sum50 s.a r) (c.specifying.ensures f ks) c.in_ok-amount.was in
    grind (arith, front_sound ∙ past f ks r (sum50 s.a r) last sum.0 ∙ last_is f ks r)

pub returns : goal.returns
returns c = λ f ks.
    let s = c.args in
    let r = s.r.now in
    let front_sound = past f ks r (front s.a r) (sum50 s.a r ++ last) (sym (c.referring.ensures f ks) ∙ c.in_ok-referring.was) in
    let sum = brought f ks r (sum50 s.a r) (c.specifying.ensures f ks) c.in_ok-amount.was in
    grind (arith, front_sound ∙ past f ks r (sum50 s.a r) last sum.0 ∙ last_is f ks r, sum.1)
