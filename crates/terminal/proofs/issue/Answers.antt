-- `issue` meets its contract: no cause of refusal, or the record as it went in. Assumes nothing.
use Rattle.terminal.proofs.Refused.{refused}
use Rattle.terminal.proofs.Walks.{issue_accepted, issue_refused}
use Rattle.terminal.proofs.issue.Goals as goal

pub returns-in-Ok : goal.returns-in-Ok
returns-in-Ok c = (c.issue_cause-outcome.ensures, issue_accepted _ _ c.in-Ok.ensures)

pub returns-in-Err : goal.returns-in-Err
returns-in-Err c = (c.issue_cause-outcome.ensures, issue_refused _ _ _ c.in-Err.ensures (refused c.in-Err.field-0))
