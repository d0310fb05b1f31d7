use Rattle.tool_walk.proofs.Grow.{room_payment}
use mathlib.Core.Path.{sym, ◌∙◌}
use Rattle.tool_walk.proofs.with_payment.Goals as goal

pub with_transaction-requires : goal.with_transaction-requires
with_transaction-requires c = room_payment _ _ _ c.requires.1 (sym c.holds.ensures ∙ c.if-not-holds.false)

pub with_transaction-requires-2 : goal.with_transaction-requires-2
with_transaction-requires-2 c = room_payment _ _ _ c.requires.0 (sym c.holds-2.ensures ∙ c.if-not-holds-2.false)
