use mathlib.Core.Path.{◌≡◌}
use lib.ListN.{length}
use Rattle.run_loop.proofs.Loop.{At}
use Rattle.run_loop.proofs.run_over.Given as goal

abbrev pub invariant-loop-k : goal.invariant-loop-k
invariant-loop-k l = At l.mode l.w l.records l.st l.keys l.figures l.k × (length l.figures ≡ length l.initial.figures)
