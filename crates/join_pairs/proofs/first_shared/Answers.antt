-- Assumes nothing.
use mathlib.Core.Path.{sym, ap, subst, ◌∙◌}
use native.Mathlib.Omega.{arith}
use Rattle.operations.specs.Joining.{shared_at}
use Rattle.join_pairs.specs.Pairs.{KeysReadable}
use Rattle.join_pairs.proofs.Shared.{searched_none, searched_all, readable_here, found_here, searched_next}
use Rattle.join_pairs.proofs.first_shared.Goals as goal

pub loop-k-init : goal.loop-k-init
loop-k-init c = searched_none _ _ (subst KeysReadable (sym c.records_of-records.ensures.are) c.requires)

pub brings-requires : goal.brings-requires
brings-requires c = (readable_here _ _ _ c.loop-k.invariant c.loop-k-test.true).0

pub returns-then-brings : goal.returns-then-brings
returns-then-brings c = found_here _ _ _ c.loop-k.invariant c.loop-k-test.true _ c.brings.ensures c.if-brings.true ∙ ap (shared_at 0 c.args.ours.now) c.records_of-records.ensures.are

pub loop-k-preserved : goal.loop-k-preserved
loop-k-preserved c = searched_next _ _ _ c.loop-k.invariant c.loop-k-test.true _ c.brings.ensures c.if-brings.false

pub returns : goal.returns
returns c = searched_all _ _ _ c.loop-k.invariant (omega arith) ∙ ap (shared_at 0 c.args.ours.now) c.records_of-records.ensures.are
