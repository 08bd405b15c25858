-- The two tests, the first of which decides where it fails. Assumes nothing.
use mathlib.Core.Path.{sym, ◌∙◌}
use Rattle.sets.proofs.Bools.{and_yes, and_no_l}
use Rattle.plan.specs.Plan.{too_many}
use Rattle.plan.proofs.too_many.Goals as goal

pub returns-then-in_range : goal.returns-then-in_range
unfolding too_many
returns-then-in_range c = sym (and_yes _ _ (sym c.in_range.ensures ∙ c.if-in_range.true))

pub returns-else-in_range : goal.returns-else-in_range
unfolding too_many
returns-else-in_range c = c.if-in_range.false ∙ sym (and_no_l _ _ (sym c.in_range.ensures ∙ c.if-in_range.false))
