-- By the number of the kind. Assumes nothing.
use borrow.Author.Tests.{eq-eqb, ne_eqb}
use Rattle.sets.specs.Tests.{pick}
use Rattle.firmware.specs.Board.{kind_of}
use Rattle.firmware.proofs.kind_of.Goals as goal

pub returns-then-kind-eq0 : goal.returns-then-kind-eq0
unfolding kind_of pick
returns-then-kind-eq0 c = simp (eq-eqb _ 0 c.if-kind-eq0.true)

pub returns-then-kind-eq1 : goal.returns-then-kind-eq1
unfolding kind_of pick
returns-then-kind-eq1 c = simp (ne_eqb _ 0 c.if-kind-eq0.false, eq-eqb _ 1 c.if-kind-eq1.true)

pub returns : goal.returns
unfolding kind_of pick
returns c = simp (ne_eqb _ 0 c.if-kind-eq0.false, ne_eqb _ 1 c.if-kind-eq1.false)
