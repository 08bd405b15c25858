-- The two tests of the rule, in its order. Assumes nothing.
use mathlib.Core.Path.{sym, ◌∙◌}
use Rattle.sets.specs.Tests.{◌and◌}
use Rattle.quorum.specs.Quorum.{others}
use Rattle.quorum.proofs.others.Goals as goal

pub returns-then-within : goal.returns-then-within
unfolding others ◌and◌
returns-then-within c = simp (sym c.within.ensures ∙ c.if-within.true, c.member.ensures)

pub returns-else-within : goal.returns-else-within
unfolding others ◌and◌
returns-else-within c = simp (sym c.within.ensures ∙ c.if-within.false, c.if-within.false)
