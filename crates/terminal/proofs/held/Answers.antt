-- `held` meets its contract, by the two cases of a state. Assumes nothing.
use mathlib.Core.Path.{sym, ap, ◌∙◌}
use Rattle.terminal.specs.Rule.{held_by}
use Rattle.terminal.proofs.held.Goals as goal

pub returns-in-Waiting : goal.returns-in-Waiting
unfolding held_by
returns-in-Waiting c = sym (ap held_by c.in-Waiting.is)

pub returns-in-Taken : goal.returns-in-Taken
unfolding held_by
returns-in-Taken c = c.edition_of.ensures ∙ sym (ap held_by c.in-Taken.is)
