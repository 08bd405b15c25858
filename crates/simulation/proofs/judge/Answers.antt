-- The causes of plan and fault set come first. Assumes nothing.
use mathlib.Core.Path.{sym, ◌∙◌}
use Rattle.plan.proofs.Laws.{sound}
use Rattle.faults.proofs.Laws.{fault_sound}
use Rattle.simulation.proofs.Causes.{cause_given, cause_fault}
use Rattle.simulation.proofs.judge.Goals as goal

pub returns-in_err-check_fault_set : goal.returns-in_err-check_fault_set
returns-in_err-check_fault_set c = cause_fault _ _ _ _ _ _ _ _ _ c.from_residual.ensures.1 c.in_err-check_fault_set.ensures

pub judge_given-requires : goal.judge_given-requires
judge_given-requires c = (sound _ (fault_sound _ _ (sym c.in_ok-check_fault_set.ensures)).0).twenty

pub returns : goal.returns
returns c = c.judge_given.ensures ∙ cause_given _ _ _ _ _ _ _ (sym c.in_ok-check_fault_set.ensures)
