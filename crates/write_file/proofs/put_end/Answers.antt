use mathlib.Core.Path.{sym}
use native.Mathlib.Omega.{arith}
use Rattle.operations.specs.Ends.{end_record}
use Rattle.field_texts.proofs.Wrote.{at_first, behind, told}
use Rattle.write_fields.specs.Parts.{head_bytes}
use Rattle.write_fields.proofs.Places.{head_length}
use Rattle.write_file.specs.Parts.{figure_bytes}
use Rattle.write_file.proofs.Ends.{record_is, figures_length, end_length}
use Rattle.write_file.proofs.put_end.Goals as goal

pub returns : goal.returns
returns c =
    let a = c.args in
    let h = head_bytes a.service 0 a.kind in
    let f = figure_bytes a.t a.last in
    let hl = head_length a.service 0 a.kind in
    let fl = figures_length a.t a.last in
    let w1 = at_first h a.out.now _ 8 (sym hl) (omega arith) c.put_head.ensures in
    let w2 = behind h a.out.now _ f _ 8 73 w1 (sym hl) (sym fl) (omega arith) c.put_figures.ensures in
    told _ (end_record a.service a.kind a.t a.last) a.out.now _ 81 w2 (record_is a.service a.kind a.t a.last) (end_length a.service a.kind a.t a.last)
