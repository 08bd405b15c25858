-- `if_enough` meets its contract, by whether they are enough. Assumes nothing.
use mathlib.Core.Path.{sym, ◌∙◌}
use Rattle.sets.proofs.Bools.{pick_yes, pick_no}
use Rattle.terminal.specs.Votes.{if_enough}
use Rattle.terminal.proofs.choice.if_enough.Goals as goal

pub returns-then-enough : goal.returns-then-enough
unfolding if_enough
returns-then-enough c = sym (pick_yes _ _ _ (sym c.enough.ensures ∙ c.if-enough.true))

pub returns : goal.returns
unfolding if_enough
returns c = sym (pick_no _ _ _ (sym c.enough.ensures ∙ c.if-enough.false))
