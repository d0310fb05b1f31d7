use mathlib.Core.Path.{◌∙◌}
use Rattle.rules.specs.Order.{may_end}
use Rattle.rules.specs.declared.Kind.TheVariants.{R88}
use Rattle.rules.specs.declared.Mode.TheVariants.{File}
use Rattle.run_order.proofs.Follow.{choice_is, end_is}
use Rattle.run_order.proofs.may_end.Goals as goal

pub returns-in-File : goal.returns-in-File
unfolding may_end
returns-in-File c = rw c.in-File.is (c.eq.ensures ∙ end_is c.args.a.last)

pub returns-in-Draft : goal.returns-in-Draft
unfolding may_end
returns-in-Draft c = simp (c.whole_behind.ensures, c.in-Draft.is) (choice_is File c.args.a R88)
