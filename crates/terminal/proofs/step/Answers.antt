-- `step` meets its contract: no cause of refusal is what `play` requires, and a refusal has a number that is not 0. Assumes nothing.
use mathlib.Core.Path.{sym, ap, ◌∙◌}
use Rattle.terminal.specs.Answer.{number_of}
use Rattle.terminal.proofs.Refused.{refused}
use Rattle.terminal.proofs.Walks.{accepted_plays, after_accepted, after_refused}
use Rattle.terminal.proofs.step.Goals as goal

pub play-after-requires : goal.play-after-requires
play-after-requires c =
    let a = accepted_plays _ _ _ _ _ _ _ (sym c.in-Ok.ensures.0) in
    (a.0, a.1, a.2, a.3, c.first_cause-outcome.ensures.1 (ap number_of c.in-Ok.is), a.4)

pub returns-in-Ok : goal.returns-in-Ok
returns-in-Ok c = (c.first_cause-outcome.ensures.0, c.play-after.ensures ∙ after_accepted _ _ _ _ _ _ _ c.in-Ok.ensures.0)

pub returns-in-Err : goal.returns-in-Err
returns-in-Err c = (c.first_cause-outcome.ensures.0, after_refused _ _ _ _ _ _ _ _ c.in-Err.ensures.0 (refused c.in-Err.field-0))
