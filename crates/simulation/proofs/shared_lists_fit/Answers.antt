-- The definition's tests in its own order. Assumes nothing.
use mathlib.Core.Path.{sym, ◌∙◌}
use borrow.Author.Tests.{eq-eqb, ne_eqb}
use Rattle.sets.proofs.Bools.{and_yes, and_no_l}
use Rattle.simulation.specs.Channel.{shared_lists_fit}
use Rattle.simulation.proofs.shared_lists_fit.Goals as goal

pub returns-then-words-rounds : goal.returns-then-words-rounds
unfolding shared_lists_fit
returns-then-words-rounds c = sym (and_yes _ _ (eq-eqb _ _ c.if-words-rounds.true))

pub returns-else-words-rounds : goal.returns-else-words-rounds
unfolding shared_lists_fit
returns-else-words-rounds c = ne_eqb _ _ c.if-words-rounds.false ∙ sym (and_no_l _ _ (ne_eqb _ _ c.if-words-rounds.false))
