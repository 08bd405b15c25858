-- The two cases of the definition. Assumes nothing.
use mathlib.Core.Path.{sym, ◌∙◌}
use borrow.Author.Tests.{eq-eqb, ne_eqb}
use Rattle.sets.proofs.Bools.{pick_yes, pick_no}
use Rattle.quorum.specs.Notice.{first_edition}
use Rattle.quorum.proofs.first_edition.Goals as goal

pub returns-then-layout-eq0 : goal.returns-then-layout-eq0
unfolding first_edition
returns-then-layout-eq0 c = sym (pick_yes _ _ _ (eq-eqb _ 0 c.if-layout-eq0.true))

pub returns-else-layout-eq0 : goal.returns-else-layout-eq0
unfolding first_edition
returns-else-layout-eq0 c = c.notice_of.ensures ∙ sym (pick_no _ _ _ (ne_eqb _ 0 c.if-layout-eq0.false))
