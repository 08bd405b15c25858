-- The definition's choices by the tests that led there. Assumes nothing.
use mathlib.Core.Path.{sym, ◌∙◌}
use Rattle.sets.proofs.Bools.{pick_yes, pick_no}
use Rattle.plan.specs.Plan.{heard_by, hears}
use Rattle.simulation.specs.Turns.{heard_where}
use Rattle.simulation.proofs.playing.heard_from.Goals as goal

pub returns-then-not-member : goal.returns-then-not-member
unfolding heard_where hears heard_by
returns-then-not-member c = sym (pick_no _ _ _ (sym c.member.ensures ∙ c.if-not-member.true))

pub returns-then-member : goal.returns-then-member
unfolding heard_where hears heard_by
returns-then-member c = sym (pick_yes _ _ _ (sym c.member.ensures ∙ c.if-not-member.false) ∙ pick_yes _ _ _ (sym c.member-else-not-member.ensures ∙ c.if-member.true))

pub returns-else-member : goal.returns-else-member
unfolding heard_where hears heard_by
returns-else-member c = sym (pick_yes _ _ _ (sym c.member.ensures ∙ c.if-not-member.false) ∙ pick_no _ _ _ (sym c.member-else-not-member.ensures ∙ c.if-member.false))
