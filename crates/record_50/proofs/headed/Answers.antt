-- Fields 1 to 5 of a record 50 told at once: where the test holds, so does every row.
-- Assumes nothing.
use Rattle.std.proofs.Common.{ℕ, ◌≡◌, List, length, ◌&&◌, ◌||◌, arith}
use lib.Dec.{eqb}
use Rattle.fields.specs.Bytes.{Inside, part}
use Rattle.fields.proofs.Tests.{and_left, and_right}
use Rattle.fields.proofs.Width.{part_length}
use Rattle.layout.specs.Rows.{AllHold, first_fault}
use Rattle.record_50.proofs.Listed.{code_listed}
use Rattle.record_50.proofs.headed.Goals as goal

inside3 : (r : List ℕ) → length r ≡ 81 → Inside 5 6 r
inside3 r h = omega arith

pub returns : goal.returns
unfolding AllHold first_fault
returns c = λ t f ks.
    let r = c.args.r.now in
    let here = c.belongs_to.result in
    let either = eqb c.code_at-code.result 16 || eqb c.code_at-code.result 17 in
    let h = and_left (here && either) c.eq.result t in
    let own = c.belongs_to.ensures (and_left here either h) in
    let same-number = and_right (here && either) c.eq.result t in (
      own.format,
      (
        grind (arith, own.service),
        (
          code_listed (part 5 6 r) c.code_at-code.result (part_length 5 6 r (inside3 r c.told-r)) c.code_at-code.ensures (and_right here either h),
          (grind (arith, c.eq.ensures, c.transaction_number.ensures f ks, same-number), (grind (arith, c.eq.ensures, c.transaction_number.ensures f ks, same-number), tt)),
        ),
      ),
    )
