use native.Mathlib.Omega.{arith}
use Rattle.field_bytes.specs.Classes.{in_class}
use Rattle.field_bytes.proofs.Tests.{one_more, none_left}
use Rattle.field_bytes.proofs.Every.{every_next, every_end}
use Rattle.field_bytes.proofs.classes.Class.has_all.Goals as goal

pub loop-b-preserved : goal.loop-b-preserved
loop-b-preserved c =
    let a = c.args in
    one_more c.loop-b.ok c.has-ok.result _ _ _ (rw c.has-ok.ensures (every_next (in_class a.self) a.s.now c.loop-b.b-index (omega arith))) c.loop-b.invariant

pub returns : goal.returns
returns c =
    let a = c.args in
    none_left c.loop-b.ok _ _ (every_end (in_class a.self) a.s.now c.loop-b.b-index (omega arith)) c.loop-b.invariant
