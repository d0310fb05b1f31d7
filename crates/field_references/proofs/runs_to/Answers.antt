use native.Mathlib.Omega.{arith}
use Rattle.field_references.specs.OnTheWay.{joins}
use Rattle.field_bytes.proofs.Tests.{one_more, none_left}
use Rattle.field_references.proofs.Runs.{chain_next, chain_end}
use Rattle.field_references.proofs.runs_to.Goals as goal

pub loop-i-preserved : goal.loop-i-preserved
loop-i-preserved c =
    let a = c.args in
    one_more c.loop-i.ok c.joined-ok.result _ _ _ (rw c.joined-ok.ensures (chain_next (joins a.side) a.s.now c.loop-i.i (omega arith) (omega arith))) c.loop-i.invariant

pub returns : goal.returns
returns c =
    let a = c.args in
    none_left c.loop-i.ok _ _ (chain_end (joins a.side) a.s.now c.loop-i.i (omega arith) (omega arith)) c.loop-i.invariant
