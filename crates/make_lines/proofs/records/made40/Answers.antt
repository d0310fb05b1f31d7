-- Record 40 from the values of a line, numbers up to the cap.
-- Assumes nothing.
use mathlib.Core.Path.{refl}
use Rattle.rules.specs.declared.Kind.TheVariants.{R40}
use Rattle.make_lines.proofs.Caps.{also, given_left, given_opening, none, same_promise, same_put}
use Rattle.make_lines.proofs.records.made40.Goals as goal

pub returns : goal.returns
returns c =
    let s = c.args.line.now in
    let o = c.opening_in-opening.ensures in
    same_promise R40 c.make.ensures
    (given_opening s R40 o.service o.code o.number
    (also (given_left s 3 6 30 _ c.value_at-name.ensures)
    (also (given_left s 4 7 4 _ c.value_at-postal.ensures)
    (also (given_left s 5 8 3 _ c.value_at-filler.ensures)
    (also (given_left s 6 9 25 _ c.value_at-area.ensures)
    (also (same_put refl)
    none))))))
