use mathlib.Core.Path.{ap, ◌∙◌}
use mathlib.Core.Bool.{not}
use Rattle.plan.proofs.Laws.{sound}
use Rattle.faults.proofs.Rows.{bounded_test, fitting_test}
use Rattle.faults.proofs.bounded.Goals as goal

pub returns-in-Most : goal.returns-in-Most
returns-in-Most c = let a = c.args in bounded_test a.p (sound a.p c.requires.0) a.s c.hearing.result _ c.in-Most.is c.requires.1 c.hearing.ensures

pub returns-in-Groups : goal.returns-in-Groups
returns-in-Groups c = let a = c.args in ap not c.enough.ensures ∙ fitting_test a.p (sound a.p c.requires.0) a.s _ c.in-Groups.is c.requires.1
