-- Record by record, until one brings such a key.
-- Assumes nothing.
use Rattle.join_pairs.proofs.Shared.{Searched}
use Rattle.join_pairs.proofs.first_shared.Given as goal

abbrev pub invariant-loop-k : goal.invariant-loop-k
invariant-loop-k l = Searched l.records l.ours l.k
