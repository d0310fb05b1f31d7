-- The values in turn, each with its slot.
-- Assumes nothing.
use Prim.Native.Nat.{◌+◌}
use mathlib.Core.Path.{◌≡◌, sym, ap, ◌∙◌}
use lib.ListN.{drop}
use Rattle.std.proofs.Common.{arith, Err}
use Rattle.layout.specs.Findings.{Finding, or_else}
use Rattle.make_lines.specs.Draft.{numerals, given_in}
use Rattle.make_lines.proofs.Counting.{numerals_next, numerals_end}
use Rattle.make_lines.proofs.slots.numerals.Goals.{After-slot_found}
use Rattle.make_lines.proofs.slots.numerals.Goals as goal

-- the numbers from here on: what this value is found to be, or else those behind it
turn : (p : After-slot_found)
    → let ss = p.args.slots.now in let vs = given_in p.args.line.now in let i = p.loop-i.i in
    numerals ss vs ≡ or_else p.slot_found.result (numerals (drop (i + 1) ss) (drop (i + 1) vs))
turn p = sym p.loop-i.invariant ∙ numerals_next p.args.slots.now p.args.line.now p.loop-i.i _ _ _ p.loop-i-test.true p.slot_found.ensures p.value_at.ensures

pub returns-in_err-slot_found : goal.returns-in_err-slot_found
returns-in_err-slot_found c =
    let rest = numerals (drop (c.loop-i.i + 1) c.args.slots.now) (drop (c.loop-i.i + 1) (given_in c.args.line.now)) in
    let fault : c.from_residual.result ≡ Err c.in_err-slot_found.field-0.0 = grind arith in
    fault ∙ sym (turn (goal.at.returns-in_err-slot_found c).After-slot_found ∙ ap (λ (x : Finding). or_else x rest) c.in_err-slot_found.was)

pub loop-i-preserved : goal.loop-i-preserved
loop-i-preserved c =
    let rest = numerals (drop (c.loop-i.i + 1) c.args.slots.now) (drop (c.loop-i.i + 1) (given_in c.args.line.now)) in
    sym (turn (goal.at.loop-i-preserved c).After-slot_found ∙ ap (λ (x : Finding). or_else x rest) c.in_ok-slot_found.was)

pub returns : goal.returns
returns c = sym (numerals_end c.args.slots.now c.args.line.now c.loop-i.i c.loop-i-test.false) ∙ c.loop-i.invariant
