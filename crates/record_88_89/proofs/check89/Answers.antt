-- Record 89, stage by stage: fixed fields, the file's figures, the zeros.
-- Assumes nothing.
use Rattle.std.proofs.Common.{ℕ, ◌≡◌, ◌∙◌, refl, sym, List, [], ◌∷◌, ◌++◌, Err, arith}
use Rattle.std.specs.Prelude.{if◌then◌else◌}
use Rattle.fields.specs.Bytes.{every, is_zero, part}
use Rattle.figures.specs.declared.totals.Totals.{Totals}
use Rattle.layout.specs.Findings.{fault, sound}
use Rattle.layout.specs.declared.Reason.TheVariants.{NotFixed}
use Rattle.layout.specs.Rules.{zeros}
use Rattle.layout.specs.Rows.{Row, at, first_fault}
use Rattle.rules.specs.Layouts.{outside, figures88, record89}
use Rattle.record_shared.proofs.Pieces.{past, ends}
use Rattle.record_88_89.proofs.Laws.{file_as_own}
use Rattle.record_88_89.proofs.check89.Goals as goal

abbrev empty : List Row
empty = at 9 48 80 zeros ∷ []

module _ (f : Totals) (ks r : List ℕ) where
  empty_is : first_fault f ks r empty ≡ (if every is_zero (part 48 80 r) then sound else Err (fault NotFixed 9))
  unfolding first_fault
  empty_is = refl

  -- behind fixed fields that hold
  past_fixed : first_fault f ks r outside ≡ sound → first_fault f ks r (record89 r) ≡ first_fault f ks r (figures88 r f ++ empty)
  past_fixed h = file_as_own f ks r ∙ past f ks r outside (figures88 r f ++ empty) h

pub returns-in_err-outside : goal.returns-in_err-outside
returns-in_err-outside c = λ ks.
    let f = c.args.file in
    let r = c.args.r.now in
    grind (arith, file_as_own f ks r ∙ ends f ks r outside (figures88 r f ++ empty) (sym (c.outside.ensures f ks) ∙ c.in_err-outside.was))

pub returns-in_err-figures_against : goal.returns-in_err-figures_against
returns-in_err-figures_against c = λ ks.
    let f = c.args.file in
    let r = c.args.r.now in
    let fixed = sym (c.outside.ensures f ks) ∙ c.in_ok-outside.was in
    grind (arith, past_fixed f ks r fixed ∙ ends f ks r (figures88 r f) empty (sym (c.figures_against.ensures f ks) ∙ c.in_err-figures_against.was))

pub returns : goal.returns
returns c = λ ks.
    let f = c.args.file in
    let r = c.args.r.now in
    let fixed = sym (c.outside.ensures f ks) ∙ c.in_ok-outside.was in
    grind (arith, past_fixed f ks r fixed ∙ past f ks r (figures88 r f) empty (sym (c.figures_against.ensures f ks) ∙ c.in_ok-figures_against.was) ∙ empty_is f ks r)
