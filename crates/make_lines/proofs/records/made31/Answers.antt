-- Record 31 from the values of a line, numbers up to the cap.
-- Assumes nothing.
use mathlib.Core.Path.{refl}
use Rattle.rules.specs.declared.Kind.TheVariants.{R31}
use Rattle.make_lines.proofs.Caps.{also, given_left, given_opening, none, same_promise, same_put}
use Rattle.make_lines.proofs.records.made31.Goals as goal

pub returns : goal.returns
returns c =
    let s = c.args.line.now in
    let o = c.opening_in-opening.ensures in
    same_promise R31 c.make.ensures
    (given_opening s R31 o.service o.code o.number
    (also (given_left s 3 6 10 _ c.value_at-text6.ensures)
    (also (given_left s 4 7 25 _ c.value_at-text7.ensures)
    (also (given_left s 5 8 25 _ c.value_at-text8.ensures)
    (also (same_put refl)
    none)))))
