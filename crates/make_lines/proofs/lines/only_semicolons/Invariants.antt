-- What was passed is semicolons, and what is left decides.
-- Assumes nothing.
use mathlib.Core.Path.{◌≡◌}
use mathlib.Core.Bool.{◌&&◌}
use lib.ListN.{drop}
use Rattle.fields.specs.Bytes.{every}
use Rattle.make_lines.specs.Lines.{is_semicolon}
use Rattle.make_lines.proofs.lines.only_semicolons.Given as goal

abbrev pub invariant-loop-b : goal.invariant-loop-b
invariant-loop-b l = l.ok && every is_semicolon (drop l.b-index l.s) ≡ every is_semicolon l.s
