-- `shared_step` meets its contract: no cause of refusal is what `play_shared` requires, and a refusal has a number that is not 0. Assumes nothing.
use mathlib.Core.Path.{sym, ap, ◌∙◌}
use Rattle.terminal.specs.Answer.{number_of}
use Rattle.terminal.proofs.Refused.{refused}
use Rattle.terminal.proofs.Walks.{accepted_plays}
use Rattle.terminal.proofs.SharedChannel.{shared_accepted, shared_fits, shared_after, shared_refused}
use Rattle.terminal.proofs.shared_step.Goals as goal

pub play_shared-after-requires : goal.play_shared-after-requires
play_shared-after-requires c =
    let e = sym c.in-Ok.ensures.0 in
    let p = accepted_plays _ _ _ _ _ _ _ (shared_accepted _ _ _ _ _ _ _ _ e).0 in
    (p.0, p.1, shared_fits _ _ _ _ _ _ _ _ e, p.3, c.first_cause-outcome.ensures.1 (ap number_of c.in-Ok.is), p.4)

pub returns-in-Ok : goal.returns-in-Ok
returns-in-Ok c = (c.first_cause-outcome.ensures.0, c.play_shared-after.ensures ∙ shared_after _ _ _ _ _ _ _ _ c.in-Ok.ensures.0)

pub returns-in-Err : goal.returns-in-Err
returns-in-Err c = (c.first_cause-outcome.ensures.0, shared_refused _ _ _ _ _ _ _ _ _ c.in-Err.ensures.0 (refused c.in-Err.field-0))
