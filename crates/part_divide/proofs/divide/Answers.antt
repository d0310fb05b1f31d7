-- Both lengths are judged before either part is written.
-- Assumes nothing.
use native.Mathlib.Omega.{arith}
use Rattle.part_divide.proofs.Halves.{cut_here, first_short, second_short, parts}
use Rattle.part_divide.proofs.divide.Goals as goal
use Rattle.part_divide.proofs.divide.Goals.{then-first-first_size-via-then-first-first_size, then-first-first_size-via-else-first-first_size+then-second-second_size}

pub split_at-requires : goal.split_at-requires
split_at-requires c =
    let f = cut_here _ _ _ _ _ c.requires _ c.sum_of-front.ensures in
    omega (arith, f.1)

pub returns-then-first-first_size : goal.returns-then-first-first_size
returns-then-first-first_size c =
    let f = cut_here _ _ _ _ _ c.requires _ c.sum_of-front.ensures in
    let s = c.split_at.ensures in
    elim c.then-first-first_size.branch [
      | then-first-first_size-via-then-first-first_size w ↦ first_short _ _ _ _ _ c.requires _ f.0 f.1 _ _ s.front s.back _ _ _ c.whole.ensures w.if-first-first_size.true
      | then-first-first_size-via-else-first-first_size+then-second-second_size w ↦ second_short _ _ _ _ _ c.requires _ f.0 f.1 _ _ s.front s.back _ _ _ c.whole.ensures w.if-second-second_size.true
    ]

pub returns : goal.returns
returns c =
    let f = cut_here _ _ _ _ _ c.requires _ c.sum_of-front.ensures in
    let s = c.split_at.ensures in
    parts _ _ _ _ _ c.requires _ f.0 f.1 _ _ s.front s.back _ _ c.if-first-first_size.false c.if-second-second_size.false _ _ _ _ _ _ f.2 c.with_ends.ensures c.sum_of-back.ensures c.with_head.ensures c.put_file.ensures c.put_file-2.ensures
