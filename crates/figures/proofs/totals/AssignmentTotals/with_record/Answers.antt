-- A record of any other type brings no date, so the last date stays.
-- Assumes nothing.
use Rattle.figures.proofs.Laws.{⊞-undated}
use Rattle.figures.proofs.totals.AssignmentTotals.with_record.Goals as goal

pub returns : goal.returns
returns c = ⊞-undated _ _ _ c.with_record.ensures
