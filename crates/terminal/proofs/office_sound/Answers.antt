-- `office_sound` meets its contract: the definition's tests in its own order. Assumes nothing.
use mathlib.Core.Path.{sym, ◌∙◌}
use borrow.Author.Tests.{le-leb, lt-leb}
use Rattle.sets.proofs.Bools.{and_yes, and_no_l}
use Rattle.terminal.proofs.office_sound.Goals as goal

pub returns-then-before-le40 : goal.returns-then-before-le40
returns-then-before-le40 c = c.state_sound.ensures ∙ sym (and_yes _ _ (le-leb _ _ c.if-before-le40.true))

pub returns-else-before-le40 : goal.returns-else-before-le40
returns-else-before-le40 c = lt-leb _ _ c.if-before-le40.false ∙ sym (and_no_l _ _ (lt-leb _ _ c.if-before-le40.false))
