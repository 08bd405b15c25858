-- The definition's tests in its own order. Assumes nothing.
use mathlib.Core.Path.{sym, ◌∙◌}
use borrow.Author.Tests.{eq-eqb, ne_eqb}
use Rattle.sets.proofs.Bools.{and_yes, and_no_l, not_i, not_yes}
use Rattle.quorum.specs.Words.{start_sound}
use Rattle.quorum.proofs.start_sound.Goals as goal

pub returns-then-layout-ne0 : goal.returns-then-layout-ne0
unfolding start_sound
returns-then-layout-ne0 c = sym (and_yes _ _ (not_i (ne_eqb _ _ c.if-layout-ne0.true)))

pub returns-else-layout-ne0 : goal.returns-else-layout-ne0
unfolding start_sound
returns-else-layout-ne0 c =
    not_yes (eq-eqb _ _ c.if-layout-ne0.false) ∙ sym (and_no_l _ _ (not_yes (eq-eqb _ _ c.if-layout-ne0.false)))
