-- The record 10, the assignments one behind the other, and the 89 behind them.
-- Assumes nothing.
use Rattle.close_write.proofs.Files.{Going, Reading}
use Rattle.close_write.proofs.write.Given as goal

abbrev pub invariant-loop-j : goal.invariant-loop-j
invariant-loop-j l = record { going : Going l.draft l.initial.out l.out l.at l.k; reading : Reading l.draft l.figures l.totals.assignments.0 l.j l.k }
