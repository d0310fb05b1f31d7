-- What has the length of a record is its own first record.
-- Assumes nothing.
use Rattle.std.proofs.Common.{◌≡◌, ◌∙◌, ap, ℕ, List, length, arith}
use Rattle.std.proofs.lemmas.List.{take_all}
use Rattle.rules.specs.Run.{records_of}
use Rattle.tool_walk.specs.Seen.{seen_in}
use Rattle.tool_remedies.specs.Remedies.{remedy_for}
use Rattle.tool_remedies.proofs.remedy_for.Goals as goal

pub returns : goal.returns
returns c = λ long followed.
    let a = c.args in
    c.right_in.ensures followed
    ∙ ap (λ (r : List ℕ). remedy_for a.reason a.field (seen_in (records_of a.before.now)) r) (c.record_at.ensures ∙ take_all 81 a.r.now (omega (arith, long)))
