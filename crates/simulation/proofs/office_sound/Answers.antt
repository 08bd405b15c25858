-- The definition's tests in its own order. Assumes nothing.
use Prim.Native.Nat.{ℕ}
use mathlib.Core.Path.{sym, ap, ◌∙◌}
use borrow.Author.Tests.{eq-eqb, ne_eqb}
use Rattle.sets.proofs.Bools.{and_yes, and_no_l, not_i, not_yes}
use Rattle.quorum.specs.Notice.{rising}
use Rattle.simulation.specs.Answer.{office_sound}
use Rattle.simulation.proofs.office_sound.Goals as goal

pub returns-then-edition-ne0 : goal.returns-then-edition-ne0
unfolding office_sound
returns-then-edition-ne0 c = c.rising.ensures ∙ ap (λ (e : ℕ). rising e c.args.later.now) c.edition_of-edition.ensures ∙ sym (and_yes _ _ (not_i (ne_eqb _ 0 (λ z. c.if-edition-ne0.true (c.edition_of-edition.ensures ∙ z)))))

pub returns-else-edition-ne0 : goal.returns-else-edition-ne0
unfolding office_sound
returns-else-edition-ne0 c =
    let none = not_yes (eq-eqb _ 0 c.if-edition-ne0.false) in
    none ∙ sym (and_no_l _ _ (not_yes (eq-eqb _ 0 (sym c.edition_of-edition.ensures ∙ c.if-edition-ne0.false))))
