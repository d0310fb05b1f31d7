use Prim.Native.Nat.{ℕ, ◌+◌, ◌-◌}
use mathlib.Core.List.{List}
use mathlib.Core.Path.{ap, ◌∙◌}
use native.Mathlib.Omega.{arith}
use Rattle.field_digits.specs.Numbers.{number_of, paired}
use Rattle.fields.proofs.Behind.{field_behind}
use Rattle.fields.proofs.pairs_at.Goals as goal

pub returns : goal.returns
returns c =
    let a = c.args in
    c.last_pairs.ensures ∙ ap (λ (s : List ℕ). paired (number_of s)) (field_behind 2 (a.from - 3) a.from (a.from + 5) a.r.now (omega arith))
