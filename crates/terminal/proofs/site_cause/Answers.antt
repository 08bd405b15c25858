-- `site_cause` meets its contract: it asks the causes in the order in which the definition picks the first. Assumes nothing.
use mathlib.Core.Path.{sym, ◌∙◌}
use Rattle.sets.specs.Tests.{pick}
use Rattle.sets.specs.Causes.{first_cause}
use Rattle.terminal.specs.Votes.{site_cause_of}
use Rattle.terminal.proofs.site_cause.Goals as goal

pub returns-then-not-in_range : goal.returns-then-not-in_range
unfolding site_cause_of first_cause pick
returns-then-not-in_range c = simp (sym c.in_range.ensures ∙ c.if-not-in_range.true)

pub returns-then-not-others : goal.returns-then-not-others
unfolding site_cause_of first_cause pick
returns-then-not-others c = simp (sym c.in_range.ensures ∙ c.if-not-in_range.false, sym c.others.ensures ∙ c.if-not-others.true)

pub returns-then-not-groups_sound : goal.returns-then-not-groups_sound
unfolding site_cause_of first_cause pick
returns-then-not-groups_sound c =
    simp (
      sym c.in_range.ensures ∙ c.if-not-in_range.false,
      sym c.others.ensures ∙ c.if-not-others.false,
      sym c.groups_sound.ensures ∙ c.if-not-groups_sound.true,
    )

pub returns : goal.returns
unfolding site_cause_of first_cause pick
returns c =
    simp (
      sym c.in_range.ensures ∙ c.if-not-in_range.false,
      sym c.others.ensures ∙ c.if-not-others.false,
      sym c.groups_sound.ensures ∙ c.if-not-groups_sound.false,
    )
