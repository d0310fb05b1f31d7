use Prim.Native.Nat.{ℕ, ◌<◌}
use mathlib.Core.Path.{subst}
use Rattle.std.proofs.Common.{rules}
use Rattle.tool_names.proofs.Names.{every_of_each}
use Rattle.tool_names.proofs.mark.Goals as goal

pub returns : goal.returns
returns g c = every_of_each _ _ (λ i l. let h = c.map.ensures.items.at i 0 0 (subst (λ (n : ℕ). i < n) c.map.ensures.items.long l) in search rules)
