-- Record 49 from the values of a line, numbers up to the cap; a capped service is no other.
-- Assumes nothing.
use Rattle.rules.specs.declared.Kind.TheVariants.{R49}
use Rattle.make_lines.proofs.Caps.{given_message, given_opening, same_promise}
use Rattle.make_lines.proofs.records.made49.Goals as goal

pub returns : goal.returns
returns c =
    let s = c.args.line.now in
    let o = c.opening_in-opening.ensures in
    same_promise R49 c.make.ensures
    (given_opening s R49 o.service o.code o.number
    (given_message s _ o.service _ _ _ c.number_at-row.ensures c.number_at-column.ensures c.value_at-text.ensures))
