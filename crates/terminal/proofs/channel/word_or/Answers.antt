-- The two cases of the definition. Assumes nothing.
use mathlib.Core.Path.{sym}
use borrow.Author.Tests.{eq-eqb, ne_eqb}
use Rattle.sets.proofs.Bools.{pick_yes, pick_no}
use Rattle.terminal.specs.Channel.{word_or}
use Rattle.terminal.proofs.channel.word_or.Goals as goal

pub returns-then-word-eq0 : goal.returns-then-word-eq0
unfolding word_or
returns-then-word-eq0 c = sym (pick_yes _ _ _ (eq-eqb _ 0 c.if-word-eq0.true))

pub returns-else-word-eq0 : goal.returns-else-word-eq0
unfolding word_or
returns-else-word-eq0 c = sym (pick_no _ _ _ (ne_eqb _ 0 c.if-word-eq0.false))
