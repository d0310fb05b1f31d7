-- Record 20 stage by stage: that it may open an assignment, its fixed fields, and the rest.
-- Assumes nothing.
use Rattle.std.proofs.Common.{◌++◌, ◌∙◌, sym, take, arith}
use Rattle.rules.specs.Layouts.{may_open, head20, key20, tail20}
use Rattle.record_shared.proofs.Pieces.{past, ends}
use Rattle.record_10_20.proofs.check20.Goals as goal

pub returns-in_err-may_open : goal.returns-in_err-may_open
returns-in_err-may_open c =
    let a = c.args in
    let r = a.r.now in
    let ks = take a.file.assignments.0 a.keys.now in
    grind (arith, ends a.file ks r (may_open a.a) (head20 ++ key20 r ++ tail20) (sym (c.may_open.ensures ks r) ∙ c.in_err-may_open.was))

pub returns-in_err-head : goal.returns-in_err-head
returns-in_err-head c =
    let a = c.args in
    let r = a.r.now in
    let ks = take a.file.assignments.0 a.keys.now in
    grind (
      arith,
      past a.file ks r (may_open a.a) (head20 ++ key20 r ++ tail20) (sym (c.may_open.ensures ks r) ∙ c.in_ok-may_open.was),
      ends a.file ks r head20 (key20 r ++ tail20) (sym (c.head.ensures a.file ks) ∙ c.in_err-head.was),
    )

pub returns : goal.returns
returns c =
    let a = c.args in
    let r = a.r.now in
    let ks = take a.file.assignments.0 a.keys.now in
    grind (
      arith,
      past a.file ks r (may_open a.a) (head20 ++ key20 r ++ tail20) (sym (c.may_open.ensures ks r) ∙ c.in_ok-may_open.was),
      past a.file ks r head20 (key20 r ++ tail20) (sym (c.head.ensures a.file ks) ∙ c.in_ok-head.was),
      c.behind_head.ensures a.file,
    )
