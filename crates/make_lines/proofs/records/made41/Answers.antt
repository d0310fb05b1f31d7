-- Record 41 from the values of a line, numbers up to the cap.
-- Assumes nothing.
use mathlib.Core.Path.{refl}
use Rattle.rules.specs.declared.Kind.TheVariants.{R41}
use Rattle.make_lines.proofs.Caps.{also, given_left, given_opening, none, same_promise, same_put}
use Rattle.make_lines.proofs.records.made41.Goals as goal

pub returns : goal.returns
returns c =
    let s = c.args.line.now in
    let o = c.opening_in-opening.ensures in
    same_promise R41 c.make.ensures
    (given_opening s R41 o.service o.code o.number
    (also (given_left s 3 6 30 _ c.value_at-address1.ensures)
    (also (given_left s 4 7 30 _ c.value_at-address2.ensures)
    (also (given_left s 5 8 3 _ c.value_at-country.ensures)
    (also (same_put refl)
    none)))))
