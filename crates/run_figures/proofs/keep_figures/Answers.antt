use native.Mathlib.Omega.{arith}
use Rattle.run_figures.specs.Slots.{slots}
use Rattle.run_figures.proofs.Slots.{put_slots, no_room}
use Rattle.run_figures.proofs.keep_figures.Goals as goal

pub returns-then-figures-at : goal.returns-then-figures-at
returns-then-figures-at c = no_room _ _ _ c.if-figures-at.true

pub returns : goal.returns
unfolding slots
returns c = put_slots c.args.before c.args.t _ (omega arith) _ c.copy_from_slice.ensures.after
