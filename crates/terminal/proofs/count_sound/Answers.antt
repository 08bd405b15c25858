-- `count_sound` meets its contract, by whether the neighbour is heard. Assumes nothing.
use borrow.Author.Rules.{rules}
use Rattle.sets.specs.Tests.{◌implies◌}
use Rattle.terminal.proofs.count_sound.Goals as goal

pub returns-then-not-hears : goal.returns-then-not-hears
unfolding ◌implies◌
returns-then-not-hears c = (simp c.if-not-hears.true, search rules)

pub returns-else-not-hears : goal.returns-else-not-hears
unfolding ◌implies◌
returns-else-not-hears c = (simp c.if-not-hears.false, search rules)
