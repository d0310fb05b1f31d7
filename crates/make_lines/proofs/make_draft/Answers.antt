-- Too few or too many lines, or what the lines make.
-- Assumes nothing.
use mathlib.Core.Path.{sym, ap, ◌∙◌}
use Rattle.std.proofs.Common.{arith}
use Rattle.layout.specs.Findings.{Finding}
use Rattle.operations.specs.Making.{on_sound, recorded}
use Rattle.make_record.proofs.Promised.{goes_on}
use Rattle.make_lines.specs.Draft.{enough}
use Rattle.make_lines.proofs.Drafts.{draft_refused, draft_made}
use Rattle.make_lines.proofs.make_draft.Goals as goal

pub returns-in_err-refusing : goal.returns-in_err-refusing
returns-in_err-refusing c =
    let e = ap enough (sym c.count_bearing.ensures) ∙ sym c.found_enough.ensures in
    draft_refused c.args.values.now c.args.out.now (ap (λ (f : Finding). on_sound f recorded) e ∙ sym c.refusing.ensures ∙ c.in_err-refusing.was) (grind arith)

pub returns : goal.returns
returns c =
    let e = ap enough (sym c.count_bearing.ensures) ∙ sym c.found_enough.ensures in
    draft_made c.args.values.now c.args.out.now (goes_on _ _ (ap (λ (f : Finding). on_sound f recorded) e ∙ sym c.refusing.ensures ∙ c.in_ok-refusing.was)) c.take_lines.ensures
