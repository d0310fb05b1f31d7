-- The record types in turn.
-- Assumes nothing.
use Rattle.rules.specs.declared.Kind.TheVariants.{R10, R20, R30, R31, R40, R41, R49, R50}
use Rattle.make_lines.specs.Draft.{given_in}
use Rattle.make_lines.proofs.Made.{of_kind}
use Rattle.make_lines.proofs.records.made_kind.Goals as goal

pub returns-in-R10 : goal.returns-in-R10
returns-in-R10 c =
    let a = c.args in
    of_kind a.kind R10 (given_in a.line.now) c.in-R10.is c.made10.ensures

pub returns-in-R20 : goal.returns-in-R20
returns-in-R20 c =
    let a = c.args in
    of_kind a.kind R20 (given_in a.line.now) c.in-R20.is c.made20.ensures

pub returns-in-R30 : goal.returns-in-R30
returns-in-R30 c =
    let a = c.args in
    of_kind a.kind R30 (given_in a.line.now) c.in-R30.is c.made30.ensures

pub returns-in-R31 : goal.returns-in-R31
returns-in-R31 c =
    let a = c.args in
    of_kind a.kind R31 (given_in a.line.now) c.in-R31.is c.made31.ensures

pub returns-in-R40 : goal.returns-in-R40
returns-in-R40 c =
    let a = c.args in
    of_kind a.kind R40 (given_in a.line.now) c.in-R40.is c.made40.ensures

pub returns-in-R41 : goal.returns-in-R41
returns-in-R41 c =
    let a = c.args in
    of_kind a.kind R41 (given_in a.line.now) c.in-R41.is c.made41.ensures

pub returns-in-R49 : goal.returns-in-R49
returns-in-R49 c =
    let a = c.args in
    of_kind a.kind R49 (given_in a.line.now) c.in-R49.is c.made49.ensures

pub returns-in-R50 : goal.returns-in-R50
returns-in-R50 c =
    let a = c.args in
    of_kind a.kind R50 (given_in a.line.now) c.in-R50.is c.made50.ensures
