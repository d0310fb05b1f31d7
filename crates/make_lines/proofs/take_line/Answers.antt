use mathlib.Core.Path.{sym, ap, ◌∙◌}
use Rattle.make_lines.specs.Draft.{taken_by}
use Rattle.make_lines.proofs.Drafts.{taken_passed, taken_else, bytes_passed, bytes_else}
use Rattle.make_lines.proofs.take_line.Goals as goal

pub returns-then-is_passed_over : goal.returns-then-is_passed_over
returns-then-is_passed_over c =
    let p = sym c.is_passed_over.ensures ∙ c.if-is_passed_over.true in
    (taken_passed _ _ p, bytes_passed _ _ p)

pub returns-in-Ok : goal.returns-in-Ok
returns-in-Ok c =
    let p = sym c.is_passed_over.ensures ∙ c.if-is_passed_over.false in
    let m = c.make_line-making.ensures in
    (sym (ap taken_by c.in-Ok.is) ∙ taken_else _ _ _ p m.answers, bytes_else _ _ _ p m.leaves)

pub returns-in-Err : goal.returns-in-Err
returns-in-Err c =
    let p = sym c.is_passed_over.ensures ∙ c.if-is_passed_over.false in
    let m = c.make_line-making.ensures in
    (sym (ap taken_by c.in-Err.is) ∙ taken_else _ _ _ p m.answers, bytes_else _ _ _ p m.leaves)
