-- Fields 1 to 5 told at once, or looked through for their first fault.
-- Assumes nothing.
use Rattle.std.proofs.Common.{ℕ, ◌≡◌, ◌∙◌, List, ◌∷◌, sym, arith}
use lib.Dec.{eqb}
use Rattle.layout.specs.declared.Reason.TheVariants.{Disagrees}
use Rattle.layout.specs.Rows.{Row, must, first_fault}
use Rattle.layout.proofs.Laws.{sound_of_all}
use Rattle.rules.specs.Codes.{type_code}
use Rattle.rules.specs.Layouts.{belongs, same_number, repeats}
use Rattle.rules.specs.declared.Assignment.{Assignment}
use Rattle.record_shared.proofs.Pieces.{past, ends}
use Rattle.record_shared.proofs.repeating.Goals as goal

-- what stands behind fields 1 and 2
abbrev behind : Assignment → List ℕ → List Row
behind a r = must (eqb (type_code r) a.code) Disagrees 3 ∷ same_number a r

pub returns-then-repeats : goal.returns-then-repeats
returns-then-repeats c = λ f ks.
    let r = c.args.r.now in
    sym (sound_of_all f ks r (repeats c.args.a.now r) (c.repeats.ensures c.if-repeats.true f ks))

pub returns-in_err-belonging : goal.returns-in_err-belonging
returns-in_err-belonging c = λ f ks.
    let r = c.args.r.now in
    let a = c.args.a.now in
    grind (arith, ends f ks r (belongs a r) (behind a r) (sym (c.belonging.ensures f ks) ∙ c.in_err-belonging.was))

pub returns-in_err-demand : goal.returns-in_err-demand
unfolding first_fault
returns-in_err-demand c = λ f ks.
    let r = c.args.r.now in
    let a = c.args.a.now in
    let rest : c.from_residual-in_err-demand.result ≡ first_fault f ks r (behind a r) = grind arith in
    rest ∙ sym (past f ks r (belongs a r) (behind a r) (sym (c.belonging.ensures f ks) ∙ c.in_ok-belonging.was))

pub returns : goal.returns
unfolding first_fault
returns c = λ f ks.
    let r = c.args.r.now in
    let a = c.args.a.now in
    let rest : c.same_number.result ≡ first_fault f ks r (behind a r) = grind (arith, c.same_number.ensures f ks) in
    rest ∙ sym (past f ks r (belongs a r) (behind a r) (sym (c.belonging.ensures f ks) ∙ c.in_ok-belonging.was))
