-- `lesser` meets its contract: 0 is no value, and of two values the test picks the smaller. Assumes nothing.
use mathlib.Core.Path.{sym, ◌∙◌}
use native.Mathlib.Omega.{arith}
use Rattle.terminal.specs.Rule.{lesser}
use Rattle.terminal.proofs.Walks.{lesser_none, lesser_some}
use Rattle.terminal.proofs.choice.lesser.Goals as goal

pub returns-then-a-eq0 : goal.returns-then-a-eq0
unfolding lesser
returns-then-a-eq0 c = simp c.if-a-eq0.true

pub returns-then-b-eq0 : goal.returns-then-b-eq0
returns-then-b-eq0 c = simp (c.if-b-eq0.true, lesser_none)

pub returns : goal.returns
returns c =
    let a = c.args in
    c.min.ensures ∙ sym (lesser_some a.a a.b (omega arith) (omega arith))
