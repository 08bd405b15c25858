-- The definition's cases. Assumes nothing.
use mathlib.Core.Path.{sym, ap, ◌∙◌}
use borrow.Author.Tests.{eq-eqb, ne_eqb}
use Rattle.sets.proofs.Bools.{pick_yes, pick_no}
use Rattle.terminal.specs.Rule.{says_in}
use Rattle.simulation.proofs.playing.says_in.Goals as goal

pub returns-in-Waiting : goal.returns-in-Waiting
unfolding says_in
returns-in-Waiting c = ap (says_in c.args.round) (sym c.in-Waiting.is)

pub returns-then-at-round : goal.returns-then-at-round
unfolding says_in
returns-then-at-round c = sym (ap (says_in c.args.round) c.in-Taken.is ∙ pick_yes _ _ _ (eq-eqb _ _ c.if-at-round.true))

pub returns-else-at-round : goal.returns-else-at-round
unfolding says_in
returns-else-at-round c = sym (ap (says_in c.args.round) c.in-Taken.is ∙ pick_no _ _ _ (ne_eqb _ _ c.if-at-round.false))
