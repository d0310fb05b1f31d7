-- A value further, and none left.
-- Assumes nothing.
use mathlib.Core.Path.{◌∙◌}
use native.Mathlib.Omega.{arith}
use Rattle.make_lines.proofs.Pieces.{suffix_next, suffix_of, suffix_short, value_begin, value_end, value_on}
use Rattle.make_lines.proofs.lines.value_start.Goals as goal

pub loop-k-init : goal.loop-k-init
loop-k-init c = (omega arith, suffix_of 0 c.args.line.now, value_begin c.args.i c.args.line.now)

pub loop-k-preserved : goal.loop-k-preserved
loop-k-preserved c =
    let l = c.args.line.now in
    let h = c.loop-k.invariant.1 in
    let e = c.behind_first-rest.ensures in (
      suffix_short l c.loop-k.rest.now _ h e,
      suffix_next l c.loop-k.rest.now _ h e,
      value_on l c.loop-k.rest.now _ h e c.args.i c.loop-k._k (omega arith) ∙ c.loop-k.invariant.2,
    )

pub returns : goal.returns
returns c = (omega arith, c.loop-k.invariant.1 ∙ value_end c.args.i c.loop-k._k c.loop-k.rest.now (omega arith) ∙ c.loop-k.invariant.2)
