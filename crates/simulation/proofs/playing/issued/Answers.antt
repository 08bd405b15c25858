-- The definition's choices by the tests that led there; the notice is written as on the source's board. Assumes nothing.
use mathlib.Core.Path.{sym, ◌∙◌}
use borrow.Author.Tests.{eq-eqb, ne_eqb}
use Rattle.sets.proofs.Bools.{and_i, and_no_l, and_no_r, not_i, not_yes, pick_yes, pick_no}
use Rattle.simulation.specs.Turns.{issued_in}
use Rattle.simulation.proofs.playing.issued.Goals.{else-t-via-then-t+else-not-silent, else-t-via-else-t}
use Rattle.simulation.proofs.playing.issued.Goals as goal

pub returns-then-not-silent : goal.returns-then-not-silent
unfolding issued_in
returns-then-not-silent c = c.issue.ensures.1 ∙ sym (pick_yes _ _ _ (and_i _ _ (eq-eqb _ _ c.if-t.true) (not_i (sym c.silent.ensures ∙ c.if-not-silent.true))))

pub returns : goal.returns
unfolding issued_in
returns c =
    elim c.else-t.branch [
      | else-t-via-then-t+else-not-silent w ↦ sym (pick_no _ _ _ (and_no_r _ _ (not_yes (sym w.silent.ensures ∙ w.if-not-silent.false))))
      | else-t-via-else-t w ↦ sym (pick_no _ _ _ (and_no_l _ _ (ne_eqb _ _ w.if-t.false)))
    ]
