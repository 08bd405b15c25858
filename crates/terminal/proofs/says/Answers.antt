-- `says` meets its contract, by the two cases of a state: the rounds agree exactly where their successors do. Assumes nothing.
use mathlib.Core.Path.{sym}
use Rattle.terminal.proofs.Laws.{says_took, says_else, says_waits}
use Rattle.terminal.proofs.says.Goals as goal

pub returns-then-at-record : goal.returns-then-at-record
returns-then-at-record c = sym (says_took _ _ _ c.in-Taken.is c.if-at-record.true)

pub returns-in-Waiting : goal.returns-in-Waiting
returns-in-Waiting c = sym (says_waits _ c.in-Waiting.is)

pub returns-else-at-record : goal.returns-else-at-record
returns-else-at-record c = sym (says_else _ _ _ c.in-Taken.is c.if-at-record.false)
