use Prim.Native.Nat.{◌-◌}
use mathlib.Core.Path.{ap, ◌∙◌}
use native.Mathlib.Omega.{arith}
use Rattle.field_digits.specs.Numbers.{number_of}
use Rattle.fields.proofs.Behind.{field_behind}
use Rattle.fields.proofs.number_at.Goals as goal

pub returns-then-to-from-eq6 : goal.returns-then-to-from-eq6
returns-then-to-from-eq6 c =
    let a = c.args in
    c.last_seven.ensures ∙ ap number_of (field_behind 1 (a.from - 2) a.from a.to a.r.now (omega arith))
