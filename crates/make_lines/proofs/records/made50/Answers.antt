-- Record 50 from the values of a line, numbers up to the cap.
-- Assumes nothing.
use mathlib.Core.Path.{refl}
use native.Mathlib.Omega.{arith}
use Rattle.rules.specs.declared.Kind.TheVariants.{R50}
use Rattle.make_lines.proofs.Caps.{also, given_number, given_opening, given_right, none, same_promise, same_put}
use Rattle.make_lines.proofs.records.made50.Goals as goal

pub returns : goal.returns
returns c =
    let s = c.args.line.now in
    let o = c.opening_in-opening.ensures in
    same_promise R50 c.make.ensures
    (given_opening s R50 o.service o.code o.number
    (also (given_right s 3 6 25 _ c.value_at-kid.ensures)
    (also (given_number s 4 7 17 _ (omega arith) c.number_at.ensures)
    (also (same_put refl)
    none))))
