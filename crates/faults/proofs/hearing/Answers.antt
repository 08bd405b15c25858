use mathlib.Core.Path.{◌∙◌}
use Rattle.faults.proofs.Rows.{over_hearing, over_none, fitting_hearing}
use Rattle.faults.proofs.hearing.Goals as goal

pub returns-in-Most : goal.returns-in-Most
returns-in-Most c = c.over.ensures ∙ over_hearing _ _ _ _ c.in-Most.is

pub returns-in-Most-2 : goal.returns-in-Most-2
returns-in-Most-2 c = over_none _ _ _ _ c.in-Most.is c.if-f-lt32.false

pub returns-in-Groups : goal.returns-in-Groups
returns-in-Groups c = c.fitting_none.ensures ∙ fitting_hearing _ _ _ _ c.in-Groups.is
