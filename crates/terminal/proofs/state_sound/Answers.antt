-- `state_sound` meets its contract, by the two cases of a state. Assumes nothing.
use borrow.Author.Tests.{le-leb, lt-leb}
use Rattle.sets.specs.Tests.{◌and◌}
use Rattle.terminal.specs.Answer.{state_sound}
use Rattle.terminal.proofs.state_sound.Goals as goal

pub returns-in-Waiting : goal.returns-in-Waiting
unfolding state_sound ◌and◌
returns-in-Waiting c = simp c.in-Waiting.is

pub returns-then-at-round : goal.returns-then-at-round
unfolding state_sound ◌and◌
returns-then-at-round c = simp (c.in-Taken.is, le-leb _ _ c.if-at-round.true, c.silent.ensures)

pub returns-else-at-round : goal.returns-else-at-round
unfolding state_sound ◌and◌
returns-else-at-round c = simp (c.in-Taken.is, lt-leb _ _ c.if-at-round.false)
