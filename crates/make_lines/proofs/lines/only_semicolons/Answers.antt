-- A semicolon more, and none left.
-- Assumes nothing.
use native.Mathlib.Omega.{arith}
use Rattle.fields.proofs.Tests.{one_more, none_left}
use Rattle.field_bytes.proofs.Every.{every_next, every_end}
use Rattle.make_lines.specs.Lines.{is_semicolon}
use Rattle.make_lines.proofs.lines.only_semicolons.Goals as goal

pub loop-b-preserved : goal.loop-b-preserved
loop-b-preserved c = one_more c.loop-b.ok _ _ _ _ (every_next is_semicolon c.args.s.now c.loop-b.b-index (omega arith)) c.loop-b.invariant

pub returns : goal.returns
returns c = none_left c.loop-b.ok _ _ (every_end is_semicolon c.args.s.now c.loop-b.b-index (omega arith)) c.loop-b.invariant
