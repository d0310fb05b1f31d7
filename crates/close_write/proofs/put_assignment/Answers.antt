-- The assignment's bytes as they stand, and its end directly behind them.
-- Assumes nothing.
use Prim.Native.Nat.{ℕ}
use mathlib.Core.Path.{refl, ap, ◌∙◌}
use mathlib.Core.List.{List}
use Rattle.rules.specs.Codes.{service_code}
use Rattle.services.specs.Services.{code_for, service_for}
use Rattle.close_write.proofs.Files.{assignment_put}
use Rattle.close_write.proofs.put_assignment.Goals as goal

pub returns : goal.returns
returns c =
    let a = c.args in
    let p = c.requires in
    let s = c.service_in-service.ensures ∙ ap (λ (r : List ℕ). code_for (service_for (service_code r))) c.record_at.ensures in
    (refl, assignment_put a.draft.now a.out.now _ _ a.from a.next a.own p.0 p.1 _ s c.copy_to.ensures c.put_end.ensures)
