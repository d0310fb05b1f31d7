-- What is added so far, with what is to come, is the whole.
-- Assumes nothing.
use Rattle.run_figures.proofs.Adding.{Adding}
use Rattle.run_figures.proofs.sum_of.Given as goal

abbrev pub invariant-loop-j : goal.invariant-loop-j
invariant-loop-j l = Adding l.figures l.from l.to l.sum l.j
