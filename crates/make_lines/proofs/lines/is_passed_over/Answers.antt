-- A remark, or semicolons alone.
-- Assumes nothing.
use mathlib.Core.Path.{sym, ap, ◌∙◌}
use mathlib.Core.Bool.{Bool, ◌||◌}
use Rattle.fields.specs.Bytes.{every}
use Rattle.make_lines.specs.Lines.{is_semicolon}
use Rattle.make_lines.proofs.Pieces.{passed_is}
use Rattle.make_lines.proofs.lines.is_passed_over.Goals as goal

pub returns-then-starts_with : goal.returns-then-starts_with
returns-then-starts_with c =
    let s = c.args.line.now in
    c.if-starts_with.true ∙ ap (λ (b : Bool). b || every is_semicolon s) (sym (sym c.starts_with.ensures.value ∙ c.if-starts_with.true)) ∙ passed_is s

pub returns-else-starts_with : goal.returns-else-starts_with
returns-else-starts_with c =
    let s = c.args.line.now in
    c.only_semicolons.ensures ∙ ap (λ (b : Bool). b || every is_semicolon s) (sym (sym c.starts_with.ensures.value ∙ c.if-starts_with.false)) ∙ passed_is s
