-- Fields 1 to 5 of a record 50: fields 1 and 2 as one piece, and behind them the type and field 5.
-- Assumes nothing.
use Rattle.std.proofs.Common.{ℕ, ◌∙◌, ◌≡◌, refl, sym, List, [], ◌∷◌, Err, arith}
use Rattle.std.specs.Prelude.{if◌then◌else◌}
use Rattle.fields.specs.Bytes.{part}
use Rattle.figures.specs.declared.totals.Totals.{Totals}
use Rattle.layout.specs.Findings.{fault}
use Rattle.layout.specs.declared.Reason.TheVariants.{NotFixed}
use Rattle.layout.specs.Rules.{listed, one_of}
use Rattle.layout.specs.Rows.{Row, at, first_fault}
use Rattle.layout.proofs.Laws.{two_listed}
use Rattle.rules.specs.Layouts.{belongs, same_number}
use Rattle.rules.specs.declared.Assignment.{Assignment}
use Rattle.record_shared.proofs.Pieces.{past, ends}
use Rattle.record_50.proofs.heading.Goals as goal

-- what stands behind fields 1 and 2
abbrev behind : Assignment → List ℕ → List Row
behind a r = at 3 5 6 (listed ("16" ∷ "17" ∷ [])) ∷ same_number a r

behind_is : (f : Totals) (ks r : List ℕ) (a : Assignment)
    → first_fault f ks r (behind a r) ≡ (if one_of ("16" ∷ "17" ∷ []) (part 5 6 r) then first_fault f ks r (same_number a r) else Err (fault NotFixed 3))
unfolding first_fault
behind_is f ks r a = refl

pub returns-in_err-belonging : goal.returns-in_err-belonging
returns-in_err-belonging c = λ f ks.
    let a = c.args.a.now in
    let r = c.args.r.now in
    grind (arith, ends f ks r (belongs a r) (behind a r) (sym (c.belonging.ensures f ks) ∙ c.in_err-belonging.was))

pub returns-in_err-demand : goal.returns-in_err-demand
returns-in_err-demand c = λ f ks.
    let a = c.args.a.now in
    let r = c.args.r.now in
    grind (arith, past f ks r (belongs a r) (behind a r) (sym (c.belonging.ensures f ks) ∙ c.in_ok-belonging.was), behind_is f ks r a, two_listed "16" "17" (part 5 6 r))

pub returns : goal.returns
returns c = λ f ks.
    let a = c.args.a.now in
    let r = c.args.r.now in
    grind (arith, past f ks r (belongs a r) (behind a r) (sym (c.belonging.ensures f ks) ∙ c.in_ok-belonging.was), behind_is f ks r a, two_listed "16" "17" (part 5 6 r), c.same_number.ensures f ks)
