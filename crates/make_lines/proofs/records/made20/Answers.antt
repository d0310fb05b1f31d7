-- Record 20 from the values of a line, numbers up to the cap.
-- Assumes nothing.
use mathlib.Core.Path.{refl}
use native.Mathlib.Omega.{arith}
use Rattle.rules.specs.declared.Kind.TheVariants.{R20}
use Rattle.make_lines.proofs.Caps.{also, given_number, none, same_promise, same_put}
use Rattle.make_lines.proofs.records.made20.Goals as goal

pub returns : goal.returns
returns c =
    let s = c.args.line.now in
    same_promise R20 c.make.ensures
    (also (same_put refl)
    (also (given_number s 0 2 2 _ (omega arith) c.number_at-service.ensures)
    (also (same_put refl)
    (also (same_put refl)
    (also (given_number s 1 5 9 _ (omega arith) c.number_at-agreement.ensures)
    (also (given_number s 2 6 7 _ (omega arith) c.number_at-assignment.ensures)
    (also (given_number s 3 7 11 _ (omega arith) c.number_at-account.ensures)
    (also (same_put refl) none))))))))
