use mathlib.Core.Path.{◌∙◌}
use Rattle.check_file.proofs.Whole.{wrong_length, too_many, in_turn, leaves_none}
use Rattle.check_file.proofs.judge.Goals as goal

pub returns-then-bad_length : goal.returns-then-bad_length
returns-then-bad_length c =
    let a = c.args in
    (c.refuse.ensures ∙ wrong_length a.w a.file.now _ c.bad_length.ensures c.if-bad_length.true, leaves_none _ _ _ _ _ c.refuse.ensures)

pub returns-then-file-gt-MOST_RECORDS : goal.returns-then-file-gt-MOST_RECORDS
returns-then-file-gt-MOST_RECORDS c =
    let a = c.args in
    (c.refuse-then-file-gt-MOST_RECORDS.ensures ∙ too_many a.w a.file.now _ c.bad_length.ensures c.if-bad_length.false c.if-file-gt-MOST_RECORDS.true, leaves_none _ _ _ _ _ c.refuse-then-file-gt-MOST_RECORDS.ensures)

pub returns : goal.returns
returns c =
    let a = c.args in
    (c.run_over.ensures.verdict ∙ in_turn a.w a.file.now _ c.bad_length.ensures c.if-bad_length.false c.if-file-gt-MOST_RECORDS.false, c.run_over.ensures.leaves)
