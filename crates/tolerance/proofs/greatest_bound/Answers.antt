-- The plan's cause decides, then the count. Assumes nothing.
use mathlib.Core.Path.{sym, ap, ◌∙◌}
use Rattle.plan.specs.Plan.{cause_of}
use Rattle.tolerance.proofs.Answers.{told_last, plan_refused}
use Rattle.tolerance.proofs.greatest_bound.Goals as goal

pub returns-in_err-check : goal.returns-in_err-check
returns-in_err-check c = plan_refused c.args.d _ _ c.from_residual.ensures.1 (c.in_err-check.ensures ∙ ap cause_of c.with_bound.ensures)

pub passed-requires : goal.passed-requires
passed-requires c = ap cause_of (sym c.with_bound.ensures) ∙ sym c.in_ok-check.ensures

pub returns : goal.returns
returns c = told_last c.args.d (ap cause_of (sym c.with_bound.ensures) ∙ sym c.in_ok-check.ensures) _ _ c.checked_sub.ensures c.passed.ensures
