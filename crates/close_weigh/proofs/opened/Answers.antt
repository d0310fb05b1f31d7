-- Assumes nothing.
use mathlib.Core.Path.{sym, ◌∙◌}
use Rattle.close_weigh.proofs.Answers.{draft_figures}
use Rattle.close_weigh.proofs.opened.Goals as goal

pub returns-in-Ok : goal.returns-in-Ok
returns-in-Ok c = λ w e. (draft_figures w c.args.draft.now _ (sym e ∙ c.in-Ok.is)).1

pub returns-in-Err : goal.returns-in-Err
returns-in-Err c = λ w e. c.openings_in.ensures.0
