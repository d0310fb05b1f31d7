use mathlib.Core.Path.{sym}
use native.Mathlib.Omega.{arith}
use lib.Seq.{length-take-le}
use Rattle.tool_values.proofs.show_line.Goals as goal

pub slice_bounds-println-end : goal.slice_bounds-println-end
slice_bounds-println-end g c = sym (length-take-le 160 c.args.line.text.now (omega arith))
