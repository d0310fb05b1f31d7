-- Record 30 from the values of a line, numbers up to the cap.
-- Assumes nothing.
use mathlib.Core.Path.{refl}
use native.Mathlib.Omega.{arith}
use Rattle.rules.specs.declared.Kind.TheVariants.{R30}
use Rattle.make_lines.proofs.Caps.{also, given_number, given_opening, given_right, none, same_promise, same_put}
use Rattle.make_lines.proofs.records.made30.Goals as goal

pub returns : goal.returns
returns c =
    let s = c.args.line.now in
    let o = c.opening_in-opening.ensures in
    same_promise R30 c.make.ensures
    (given_opening s R30 o.service o.code o.number
    (also (given_number s 3 6 6 _ (omega arith) c.number_at-date.ensures)
    (also (given_right s 4 7 11 _ c.value_at-party.ensures)
    (also (given_number s 5 8 17 _ (omega arith) c.number_at.ensures)
    (also (given_right s 6 9 25 _ c.value_at-kid.ensures)
    (also (same_put refl)
    none))))))
