-- The causes of plan and fault set come first. Assumes nothing.
use mathlib.Core.Path.{sym, ◌∙◌}
use Rattle.plan.proofs.Laws.{sound}
use Rattle.faults.proofs.Laws.{shared_sound}
use Rattle.simulation.proofs.SharedCauses.{shared_start_parts, shared_played, shared_length, shared_wrong_start, shared_fault}
use Rattle.simulation.proofs.judge_shared.Goals as goal

pub returns-in_err-check_shared_fault_set : goal.returns-in_err-check_shared_fault_set
returns-in_err-check_shared_fault_set c = shared_fault _ _ _ _ _ _ _ _ _ c.from_residual.ensures.1 c.in_err-check_shared_fault_set.ensures

pub returns-then-not-shared_start_sound : goal.returns-then-not-shared_start_sound
returns-then-not-shared_start_sound c =
    shared_wrong_start _ _ _ _ _ _ _ (sym c.in_ok-check_shared_fault_set.ensures) (sym c.shared_start_sound.ensures ∙ c.if-not-shared_start_sound.true)

pub shared_lists_fit-requires : goal.shared_lists_fit-requires
shared_lists_fit-requires c =
    ((sound _ (shared_sound _ _ (sym c.in_ok-check_shared_fault_set.ensures)).0).twenty, (shared_start_parts _ _ _ (sym c.shared_start_sound.ensures ∙ c.if-not-shared_start_sound.false)).1)

pub returns-then-not-shared_lists_fit : goal.returns-then-not-shared_lists_fit
returns-then-not-shared_lists_fit c =
    shared_length _ _ _ _ _ _ _ (sym c.in_ok-check_shared_fault_set.ensures) (sym c.shared_start_sound.ensures ∙ c.if-not-shared_start_sound.false)
    (sym c.shared_lists_fit.ensures ∙ c.if-not-shared_lists_fit.true)

pub returns : goal.returns
returns c =
    shared_played _ _ _ _ _ _ _ (sym c.in_ok-check_shared_fault_set.ensures) (sym c.shared_start_sound.ensures ∙ c.if-not-shared_start_sound.false)
    (sym c.shared_lists_fit.ensures ∙ c.if-not-shared_lists_fit.false)
