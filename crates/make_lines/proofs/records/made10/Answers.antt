-- Record 10 from the values of a line, numbers up to the cap.
-- Assumes nothing.
use mathlib.Core.Path.{refl}
use native.Mathlib.Omega.{arith}
use Rattle.rules.specs.declared.Kind.TheVariants.{R10}
use Rattle.make_lines.proofs.Caps.{also, given_number, none, same_promise, same_put}
use Rattle.make_lines.proofs.records.made10.Goals as goal

pub returns : goal.returns
returns c =
    let s = c.args.line.now in
    same_promise R10 c.make.ensures
    (also (same_put refl)
    (also (same_put refl)
    (also (same_put refl)
    (also (same_put refl)
    (also (given_number s 0 5 8 _ (omega arith) c.number_at.ensures)
    (also (given_number s 1 6 7 _ (omega arith) c.number_at-2.ensures)
    (also (same_put refl)
    (also (same_put refl) none))))))))
