-- Either the next terminal's turn in this round, or the first's in the next. Assumes nothing.
use mathlib.Core.Path.{sym}
use borrow.Author.Tests.{lt-ltb, le-ltb}
use Rattle.sets.proofs.Bools.{pick_yes, pick_no}
use Rattle.simulation.specs.Turns.{next_turn}
use Rattle.simulation.proofs.playing.next_turn.Goals as goal

pub returns-then-t : goal.returns-then-t
unfolding next_turn
returns-then-t c = rw c.says_in.ensures (sym (pick_yes _ _ _ (lt-ltb _ _ c.if-t.true)))

pub returns : goal.returns
unfolding next_turn
returns c = rw c.says_in.ensures (sym (pick_no _ _ _ (le-ltb _ _ c.if-t.false)))
