-- A record type that may stand here: the choices by the new type are the list by the record before.
-- Assumes nothing.
use mathlib.Core.Path.{◌∙◌}
use Rattle.run_order.proofs.Follow.{choice_is, type_is, remittance_is, autogiro_is}
use Rattle.rules.specs.declared.Kind.TheVariants.{R30, R31, R40, R41, R49, R50, R88, R20, R89, R10, Other}
use Rattle.run_order.proofs.may_follow.Goals as goal

pub returns-in-R30 : goal.returns-in-R30
returns-in-R30 c = let q = c.args in simp (c.whole_behind.ensures, c.eq.ensures ∙ type_is q.a.last R20, c.in-R30.is) (choice_is q.mode q.a R30)

pub returns-in-R31 : goal.returns-in-R31
returns-in-R31 c = let q = c.args in simp (c.eq-in-R31.ensures ∙ type_is q.a.last R30, c.in-R31.is) (choice_is q.mode q.a R31)

pub returns-in-R40 : goal.returns-in-R40
returns-in-R40 c = let q = c.args in simp (c.eq-in-R40.ensures ∙ type_is q.a.last R31, c.eq-in-R40-2.ensures ∙ remittance_is q.a.service, c.in-R40.is) (choice_is q.mode q.a R40)

pub returns-in-R41 : goal.returns-in-R41
returns-in-R41 c = let q = c.args in simp (c.eq-in-R41.ensures ∙ type_is q.a.last R40, c.in-R41.is) (choice_is q.mode q.a R41)

pub returns-in-R49 : goal.returns-in-R49
returns-in-R49 c = let q = c.args in simp (c.eq-in-R49.ensures ∙ type_is q.a.last R31, c.eq-in-R49-2.ensures ∙ autogiro_is q.a.service, c.messages_behind.ensures, c.in-R49.is) (choice_is q.mode q.a R49)

pub returns-in-R50 : goal.returns-in-R50
returns-in-R50 c = let q = c.args in simp (c.eq-in-R50.ensures ∙ type_is q.a.last R50, c.eq-in-R50-2.ensures ∙ type_is q.a.last R31, c.eq-in-R50-3.ensures ∙ remittance_is q.a.service, c.in-R50.is) (choice_is q.mode q.a R50)

pub returns-in-R88 : goal.returns-in-R88
returns-in-R88 c = let q = c.args in simp (c.whole_behind-in-R88.ensures, c.eq-in-R88.ensures, c.in-R88.is) (choice_is q.mode q.a R88)

pub returns-in-R20 : goal.returns-in-R20
returns-in-R20 c = let q = c.args in simp (c.whole_behind-in-R20.ensures, c.eq-in-R20-3.ensures, c.eq-in-R20-2.ensures ∙ type_is q.a.last R88, c.eq-in-R20.ensures ∙ type_is q.a.last R10, c.in-R20.is) (choice_is q.mode q.a R20)

pub returns-in-R89 : goal.returns-in-R89
returns-in-R89 c = let q = c.args in simp (c.eq-in-R89.ensures ∙ type_is q.a.last R88, c.in-R89.is) (choice_is q.mode q.a R89)

pub returns-in-R10 : goal.returns-in-R10
returns-in-R10 c = let q = c.args in simp (c.eq-in-R10.ensures ∙ type_is q.a.last Other, c.in-R10.is) (choice_is q.mode q.a R10)

pub returns-in-Other : goal.returns-in-Other
returns-in-Other c = let q = c.args in simp c.in-Other.is (choice_is q.mode q.a Other)
