-- The definition's tests in its own order. Assumes nothing.
use mathlib.Core.Path.{sym, ◌∙◌}
use borrow.Author.Tests.{eq-eqb, ne_eqb}
use Rattle.sets.proofs.Bools.{clash, and_yes, and_no_l, and_no_r}
use Rattle.simulation.specs.Answer.{lists_fit}
use Rattle.simulation.proofs.lists_fit.Goals.{then-words-rounds, else-words-rounds}
use Rattle.simulation.proofs.lists_fit.Goals as goal

pub returns-then-issues-rounds : goal.returns-then-issues-rounds
unfolding lists_fit
returns-then-issues-rounds c =
    elim c.if-words-rounds.branch [
      | then-words-rounds w ↦ sym (and_yes _ _ (eq-eqb _ _ w.if-words-rounds.true) ∙ and_yes _ _ (sym w.value-is ∙ c.if-issues-rounds.true))
      | else-words-rounds w ↦ clash c.if-issues-rounds.true (w.value-is ∙ ne_eqb _ _ w.if-words-rounds.false)
    ]

pub returns-else-issues-rounds : goal.returns-else-issues-rounds
unfolding lists_fit
returns-else-issues-rounds c =
    elim c.if-words-rounds.branch [
      | then-words-rounds w ↦ c.if-issues-rounds.false ∙ sym (and_no_r _ _ (and_no_l _ _ (sym w.value-is ∙ c.if-issues-rounds.false)))
      | else-words-rounds w ↦ c.if-issues-rounds.false ∙ sym (and_no_l _ _ (ne_eqb _ _ w.if-words-rounds.false))
    ]
