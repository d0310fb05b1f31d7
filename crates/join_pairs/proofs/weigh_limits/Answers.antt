-- Assumes nothing.
use Rattle.join_pairs.proofs.Reasons.{many_records, many_assignments, large_sum, in_limits}
use Rattle.join_pairs.proofs.weigh_limits.Goals as goal

pub returns-then-joined-gt-MOST_RECORDS : goal.returns-then-joined-gt-MOST_RECORDS
returns-then-joined-gt-MOST_RECORDS c = many_records _ _ _ c.both-joined.ensures _ c.whole.ensures c.if-joined-gt-MOST_RECORDS.true

pub returns-then-joined-gt-MOST_ASSIGNMENTS : goal.returns-then-joined-gt-MOST_ASSIGNMENTS
returns-then-joined-gt-MOST_ASSIGNMENTS c = many_assignments _ _ _ c.both-joined.ensures c.if-joined-gt-MOST_RECORDS.false _ c.whole-then-joined-gt-MOST_ASSIGNMENTS.ensures c.if-joined-gt-MOST_ASSIGNMENTS.true

pub returns-then-not-holds : goal.returns-then-not-holds
returns-then-not-holds c = large_sum _ _ _ c.both-joined.ensures c.if-joined-gt-MOST_RECORDS.false c.if-joined-gt-MOST_ASSIGNMENTS.false _ c.holds.ensures _ c.whole-then-not-holds.ensures c.if-not-holds.true

pub returns : goal.returns
returns c = in_limits _ _ _ c.both-joined.ensures c.if-joined-gt-MOST_RECORDS.false c.if-joined-gt-MOST_ASSIGNMENTS.false _ c.holds.ensures c.if-not-holds.false
