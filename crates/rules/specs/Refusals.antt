-- Document 01, "Refusal numbers": a refusal gives number, operand, record and field.
-- Assumes nothing.
use Rattle.std.specs.Prelude.{ℕ, Result, Err}
use Rattle.figures.specs.declared.totals.Totals.{Totals}
use Rattle.layout.specs.declared.Reason.{Reason}
use Rattle.rules.specs.declared.Refusal.{Refusal}

-- accepted with a file's figures, or refused
abbrev pub Verdict : Type 0
Verdict = Result Totals Refusal

abbrev pub refusal : Reason → ℕ → ℕ → ℕ → Refusal
refusal reason operand rec field = record { reason = reason; operand = operand; «record» = rec; field = field }

abbrev pub refused : Reason → ℕ → ℕ → ℕ → Verdict
refused reason operand rec field = Err (refusal reason operand rec field)
