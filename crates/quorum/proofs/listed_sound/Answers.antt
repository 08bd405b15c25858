use borrow.Author.Tests.{lt-leb, le-leb}
use Rattle.sets.specs.Tests.{◌and◌}
use Rattle.quorum.proofs.listed_sound.Goals as goal

pub returns-then-count-ge1 : goal.returns-then-count-ge1
unfolding ◌and◌
returns-then-count-ge1 c = simp (c.in-Groups.is, le-leb _ _ c.if-count-ge1.true)

pub returns-else-count-ge1 : goal.returns-else-count-ge1
unfolding ◌and◌
returns-else-count-ge1 c = simp (c.in-Groups.is, lt-leb _ _ c.if-count-ge1.false)
