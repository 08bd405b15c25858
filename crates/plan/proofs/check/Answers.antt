-- The causes in their order. Assumes nothing.
use mathlib.Core.Path.{sym, ◌∙◌}
use Rattle.sets.proofs.Bools.{not_i, not_yes}
use Rattle.sets.proofs.Causes.{cause_here, cause_later}
use Rattle.plan.specs.Plan.{heard_by, links_sound}
use Rattle.plan.proofs.Laws.{range_cause, later_cause_lem, tested}
use Rattle.plan.proofs.check.Goals as goal

pub returns-then-not-in_range : goal.returns-then-not-in_range
returns-then-not-in_range c = sym (range_cause _ (sym c.in_range.ensures ∙ c.if-not-in_range.true))

pub returns-then-not-links_sound : goal.returns-then-not-links_sound
unfolding links_sound heard_by
returns-then-not-links_sound c =
    sym (later_cause_lem _ (sym c.in_range.ensures ∙ c.if-not-in_range.false)
    ∙ cause_here _ 5 _ (not_i (sym c.links_sound.ensures ∙ c.if-not-links_sound.true)))

pub returns-then-not-groups_sound : goal.returns-then-not-groups_sound
unfolding links_sound heard_by
returns-then-not-groups_sound c =
    sym (later_cause_lem _ (sym c.in_range.ensures ∙ c.if-not-in_range.false)
    ∙ cause_later _ 5 _ (not_yes (sym c.links_sound.ensures ∙ c.if-not-links_sound.false))
    ∙ cause_here _ 17 _ (not_i (sym c.groups_sound.ensures ∙ c.if-not-groups_sound.true)))

pub returns : goal.returns
unfolding links_sound heard_by
returns c =
    sym (tested _ (record {
      range = sym c.in_range.ensures ∙ c.if-not-in_range.false;
      links = sym c.links_sound.ensures ∙ c.if-not-links_sound.false;
      groups = sym c.groups_sound.ensures ∙ c.if-not-groups_sound.false;
    }))
