-- 60 positions of text hold both texts; the other tests hold their rows.
-- Assumes nothing.
use mathlib.Core.Path.{◌≡◌, sym, ◌∙◌}
use mathlib.Core.Bool.{true, ◌&&◌}
use native.Mathlib.Omega.{arith}
use Rattle.fields.specs.Bytes.{every, is_text, part}
use Rattle.fields.proofs.Inner.{inner}
use Rattle.fields.proofs.Tests.{and_left, and_right}
use Rattle.layout.specs.Rows.{AllHold}
use Rattle.record_41.proofs.sound41.Goals as goal

pub returns : goal.returns
unfolding AllHold
returns c = λ t f ks.
    let r = c.args.r.now in
    let text = c.all_at.result in
    let country = c.country_at.result in
    let zero = c.all_at-2.result in
    let both = and_left (text && country) zero t in
    let h : every is_text (part 16 75 r) ≡ true = sym c.all_at.ensures ∙ and_left text country both in (
      inner is_text 15 0 30 60 r (omega arith) h,
      (
        inner is_text 15 30 30 60 r (omega arith) h,
        (
          sym c.country_at.ensures ∙ and_right text country both,
          (
            sym c.all_at-2.ensures ∙ and_right (text && country) zero t,
            tt,
          ),
        ),
      ),
    )
