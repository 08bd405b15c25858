-- `row_sound` is the definition's own choice by b < n. Assumes nothing.
use mathlib.Core.Path.{sym, ◌∙◌}
use borrow.Author.Tests.{lt-ltb, le-ltb}
use Rattle.sets.proofs.Bools.{pick_yes, pick_no}
use Rattle.plan.specs.Plan.{row_sound}
use Rattle.plan.proofs.row_sound.Goals as goal

pub returns-then-b-n : goal.returns-then-b-n
unfolding row_sound
returns-then-b-n c = c.others.ensures ∙ sym (pick_yes _ _ _ (lt-ltb _ _ c.if-b-n.true))

pub returns-else-b-n : goal.returns-else-b-n
unfolding row_sound
returns-else-b-n c = sym (pick_no _ _ _ (le-ltb _ _ c.if-b-n.false))
