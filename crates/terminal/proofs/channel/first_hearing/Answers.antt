-- By the two cases of a state. Assumes nothing.
use borrow.Author.Rules.{rules}
use borrow.Author.Tests.{eq-eqb, ne_eqb}
use Rattle.sets.specs.Tests.{◌and◌}
use Rattle.terminal.specs.Channel.{first_hearing}
use Rattle.terminal.proofs.channel.first_hearing.Goals as goal

pub returns-then-round-eq0 : goal.returns-then-round-eq0
unfolding first_hearing ◌and◌
returns-then-round-eq0 c = simp (c.in-Waiting.is, eq-eqb _ 0 c.if-round-eq0.true)

pub returns-else-round-eq0 : goal.returns-else-round-eq0
unfolding first_hearing ◌and◌
returns-else-round-eq0 c = simp (c.in-Waiting.is, ne_eqb _ 0 c.if-round-eq0.false)

pub returns-in-Taken : goal.returns-in-Taken
unfolding first_hearing
returns-in-Taken c = search rules
