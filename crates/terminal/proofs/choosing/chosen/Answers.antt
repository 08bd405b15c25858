-- `chosen` meets its contract: the edition and the layout that were found, as one notice. Assumes nothing.
use mathlib.Core.Path.{sym, ap, ◌∙◌}
use mathlib.Core.List.{map}
use borrow.Author.Tests.{eq-eqb, ne_eqb}
use Rattle.sets.proofs.Bools.{pick_yes, pick_no}
use Rattle.quorum.specs.Notice.{notice_of}
use Rattle.terminal.specs.Rule.{layout_in, chosen}
use Rattle.terminal.specs.Shown.{spoken_in}
use Rattle.terminal.proofs.choosing.chosen.Goals as goal

pub returns-then-best-eq0 : goal.returns-then-best-eq0
unfolding chosen
returns-then-best-eq0 c = sym (pick_yes _ _ _ (eq-eqb _ 0 (sym c.newest-best.ensures.0 ∙ c.if-best-eq0.true)))

pub returns : goal.returns
unfolding chosen
returns c =
    let a = c.args in
    let e = c.newest-best.ensures in
    c.notice_of.ensures
    ∙ (λ i. notice_of (e.0 i) ((e.1 c.if-best-eq0.false ∙ ap (layout_in a.n a.source a.bound a.heard (map spoken_in a.notes.now)) e.0) i))
    ∙ sym (pick_no _ _ _ (ne_eqb _ 0 (λ z. c.if-best-eq0.false (e.0 ∙ z))))
