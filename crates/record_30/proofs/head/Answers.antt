-- The group before, then fields 1 and 2 as one piece, then the type; where all rows hold there is no fault.
-- Assumes nothing.
use Rattle.std.proofs.Common.{refl, ◌∙◌, sym, ap₂, ◌&&◌, arith}
use Rattle.fields.proofs.Tests.{and_left, and_right}
use Rattle.layout.specs.Rows.{first_fault, AllHold}
use Rattle.layout.proofs.Laws.{sound_of_all}
use Rattle.rules.specs.Payments.{is_type}
use Rattle.rules.specs.Layouts.{head30}
use Rattle.record_shared.proofs.Belong.{belongs_hold}
use Rattle.record_30.proofs.head.Goals as goal

pub returns-then-gives-belongs_to : goal.returns-then-gives-belongs_to
unfolding AllHold
returns-then-gives-belongs_to c = λ f ks.
    let a = c.args in
    let r = a.r.now in
    let here = c.belongs_to.result in
    let t = c.if-gives-belongs_to.true in
    let h = and_left (c.gives-gives.result && here) c.listed.result t in
    let own = c.belongs_to.ensures (and_right c.gives-gives.result here h) in
    let top = belongs_hold a.a.service r own a.a refl f ks in
    let listed = ap₂ is_type (own.service ∙ sym c.code_for.ensures) (sym c.code_at-code.ensures) ∙ sym c.listed.ensures ∙ and_right (c.gives-gives.result && here) c.listed.result t in
    sym (sound_of_all f ks r (head30 a.a r) (sym c.gives-gives.ensures ∙ and_left c.gives-gives.result here h, (top.0, (top.1.0, (listed, tt)))))

pub returns-in_err-demand : goal.returns-in_err-demand
unfolding first_fault
returns-in_err-demand c = λ f ks. grind arith

pub returns-in_err-belonging : goal.returns-in_err-belonging
unfolding first_fault
returns-in_err-belonging c = λ f ks. grind (arith, c.belonging.ensures f ks)

pub returns : goal.returns
unfolding first_fault
returns c = λ f ks. grind (arith, c.belonging.ensures f ks)
