-- What was found and what is left make up the whole.
-- Assumes nothing.
use mathlib.Core.Path.{◌≡◌}
use mathlib.Core.Bool.{◌||◌}
use lib.ListN.{drop}
use Rattle.layout.specs.Rows.{member}
use Rattle.record_10_20.proofs.seen.Given as goal

abbrev pub invariant-loop-other : goal.invariant-loop-other
invariant-loop-other l = l.found || member l.key (drop l.other-index l.keys) ≡ member l.key l.keys
