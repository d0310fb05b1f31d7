-- What is found before, or the record.
-- Assumes nothing.
use mathlib.Core.Path.{◌≡◌, sym, ap, ◌∙◌}
use Rattle.std.proofs.Common.{arith}
use Rattle.layout.specs.Findings.{Finding, sound}
use Rattle.operations.specs.Making.{on_sound, recorded}
use Rattle.make_record.proofs.Promised.{goes_on}
use Rattle.make_lines.specs.Draft.{fault_in, given_in}
use Rattle.make_lines.proofs.Made.{sound_given, line_refused, line_made}
use Rattle.make_lines.proofs.records.make_line.Goals.{In_ok-refusing}
use Rattle.make_lines.proofs.records.make_line.Goals as goal

-- nothing is found
none_found : (p : In_ok-refusing) → fault_in p.kind_in-kind.result (given_in p.args.line.now) ≡ sound
none_found p = goes_on _ _ (ap (λ (f : Finding). on_sound f recorded) (sym p.fault_in.ensures) ∙ sym p.refusing.ensures ∙ p.in_ok-refusing.was)

pub returns-in_err-refusing : goal.returns-in_err-refusing
returns-in_err-refusing c =
    line_refused c.args.line.now c.args.out.now _ c.kind_in-kind.ensures
    (ap (λ (f : Finding). on_sound f recorded) (sym c.fault_in.ensures) ∙ sym c.refusing.ensures ∙ c.in_err-refusing.was) (grind arith)

pub made_kind-requires : goal.made_kind-requires
made_kind-requires c = sound_given _ _ (none_found (goal.at.made_kind-requires c).In_ok-refusing)

pub returns : goal.returns
returns c = line_made c.args.line.now c.args.out.now _ c.kind_in-kind.ensures (none_found (goal.at.returns c).In_ok-refusing) c.made_kind.ensures
