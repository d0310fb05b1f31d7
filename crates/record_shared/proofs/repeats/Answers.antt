-- Each of the three tests holds its rows.
-- Assumes nothing.
use Rattle.std.proofs.Common.{arith, ◌&&◌}
use lib.Dec.{eqb}
use Rattle.fields.proofs.Tests.{and_left, and_right}
use Rattle.layout.specs.Rows.{AllHold, first_fault}
use Rattle.record_shared.proofs.repeats.Goals as goal

pub returns : goal.returns
unfolding AllHold first_fault
returns c = λ t f ks.
    let here = c.belongs_to.result in
    let same = eqb c.code_at.result c.args.a.now.code in
    let h = and_left (here && same) c.eq.result t in
    let own = c.belongs_to.ensures (and_left here same h) in
    let same-type = and_right here same h in
    let same-number = and_right (here && same) c.eq.result t in (
      own.format,
      (
        grind (arith, own.service),
        (
          grind (arith, same-type, c.code_at.ensures),
          (grind (arith, c.eq.ensures, c.transaction_number.ensures f ks, same-number), (grind (arith, c.eq.ensures, c.transaction_number.ensures f ks, same-number), tt)),
        ),
      ),
    )
