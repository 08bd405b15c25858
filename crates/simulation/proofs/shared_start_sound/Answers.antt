-- The definition's tests in its own order. Assumes nothing.
use mathlib.Core.Path.{sym, ◌∙◌}
use Rattle.sets.proofs.Bools.{and_yes, and_no_l}
use Rattle.simulation.specs.Channel.{shared_start_sound}
use Rattle.simulation.proofs.shared_start_sound.Goals as goal

pub returns-then-start_sound : goal.returns-then-start_sound
unfolding shared_start_sound
returns-then-start_sound c = sym (and_yes _ _ (sym c.start_sound.ensures ∙ c.if-start_sound.true))

pub returns-else-start_sound : goal.returns-else-start_sound
unfolding shared_start_sound
returns-else-start_sound c = c.if-start_sound.false ∙ sym (and_no_l _ _ (sym c.start_sound.ensures ∙ c.if-start_sound.false))
