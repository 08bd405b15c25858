-- The definition's tests in its own order. Assumes nothing.
use Prim.Native.Nat.{ℕ}
use mathlib.Core.Path.{sym, ap, ◌∙◌}
use borrow.Author.Tests.{eq-eqb, ne_eqb}
use lib.Dec.{eqb}
use Rattle.sets.proofs.Bools.{or_l, or_none}
use Rattle.quorum.specs.Notice.{silent}
use Rattle.quorum.proofs.silent.Goals as goal

pub returns-then-edition_of-eq0 : goal.returns-then-edition_of-eq0
unfolding silent
returns-then-edition_of-eq0 c =
    eq-eqb _ 0 c.if-edition_of-eq0.true ∙ sym (or_l _ _ (eq-eqb _ 0 (sym c.edition_of.ensures ∙ c.if-edition_of-eq0.true)))

pub returns-else-edition_of-eq0 : goal.returns-else-edition_of-eq0
unfolding silent
returns-else-edition_of-eq0 c = sym (or_none _ _ (ne_eqb _ 0 (λ e. c.if-edition_of-eq0.false (c.edition_of.ensures ∙ e))) ∙ ap (λ (k : ℕ). eqb k 0) (sym c.layout_of.ensures))
