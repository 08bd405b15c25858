-- Within n by the set without the source, past it by the set itself. Assumes nothing.
use mathlib.Core.Path.{sym, ap, ◌∙◌}
use Rattle.faults.specs.Check.{fault_cause_of}
use Rattle.faults.proofs.Laws.{shared_within, shared_past}
use Rattle.faults.proofs.check_shared_fault_set.Goals as goal

pub returns-then-within : goal.returns-then-within
returns-then-within c =
    c.check_fault_set.ensures ∙ ap (fault_cause_of c.args.p) c.without.ensures
    ∙ shared_within _ _ (sym c.within.ensures ∙ c.if-within.true)

pub returns-else-within : goal.returns-else-within
returns-else-within c = c.check_fault_set-else-within.ensures ∙ shared_past _ _ (sym c.within.ensures ∙ c.if-within.false)
