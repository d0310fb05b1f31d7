-- 20, then 15 with the first record that brings a shared key, then the limits.
-- Assumes nothing.
use Rattle.join_pairs.proofs.Reasons.{of_second, other_sender, shared_key, to_limits}
use Rattle.join_pairs.proofs.weigh_both.Goals as goal

pub returns-then-not-same_sender : goal.returns-then-not-same_sender
returns-then-not-same_sender c =
    other_sender c.args.first.file.now c.args.second.file.now _ _ _ _ c.requires.0 c.requires.1 _ c.same_sender.ensures _ (of_second _ _ _ _ _ c.at.ensures c.of.ensures) c.if-not-same_sender.true

pub returns-then-any_shared : goal.returns-then-any_shared
returns-then-any_shared c =
    shared_key c.args.first.file.now c.args.second.file.now _ _ _ _ c.requires.0 c.requires.1 _ c.same_sender.ensures c.if-not-same_sender.false _ c.any_shared.ensures _ _ (of_second _ _ _ _ _ c.at-then-any_shared.ensures c.of-then-any_shared.ensures) c.first_shared-record.ensures c.if-any_shared.true

pub returns : goal.returns
returns c =
    to_limits c.args.first.file.now c.args.second.file.now _ _ _ _ c.requires.0 c.requires.1 _ c.same_sender.ensures c.if-not-same_sender.false _ c.any_shared.ensures _ c.weigh_limits.ensures c.if-any_shared.false
