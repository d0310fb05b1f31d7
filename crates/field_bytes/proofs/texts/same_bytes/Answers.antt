use mathlib.Core.Path.{◌∙◌}
use native.Mathlib.Omega.{arith}
use Rattle.field_bytes.proofs.Every.{same_two, same_eq}
use Rattle.field_bytes.proofs.texts.same_bytes.Goals as goal

pub returns-then-s-eq2 : goal.returns-then-s-eq2
returns-then-s-eq2 c =
    let a = c.args in
    same_two a.s.now a.t.now (omega arith) (omega arith)

pub returns : goal.returns
returns c = c.eq.ensures ∙ same_eq _ _
