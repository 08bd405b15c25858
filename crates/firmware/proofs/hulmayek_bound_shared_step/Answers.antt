-- The shared step's promise, on what the board's record and bound stand for. Assumes nothing.
use mathlib.Core.Path.{◌∙◌}
use Rattle.firmware.proofs.Laws.{shared_answered, shared_kept}
use Rattle.firmware.proofs.hulmayek_bound_shared_step.Goals as goal

pub answer_of-requires : goal.answer_of-requires
answer_of-requires c = let s = c.shared_step-stepped.ensures in shared_kept _ _ c.record_of-record.ensures _ _ _ _ _ _ _ _ _ s.0 s.1

pub returns : goal.returns
returns c =
    let s = c.shared_step-stepped.ensures in
    c.answer_of.ensures
    ∙ shared_answered _ _ c.record_of-record.ensures _ _ _ _ _ _ _ _ _ _ c.bound_of-bound.ensures s.0 s.1
