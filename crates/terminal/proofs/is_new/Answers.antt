-- `is_new` meets its contract: each test of the code is one of the tests that the rule joins. Assumes nothing.
use mathlib.Core.Path.{sym, ◌∙◌}
use mathlib.Core.Bool.{not}
use lib.Dec.{leb}
use Rattle.sets.specs.Tests.{◌and◌}
use Rattle.sets.proofs.Bools.{and_yes, and_no_l, and_no_r, not_i, not_yes}
use Rattle.terminal.specs.Rule.{in_edition, among, is_new}
use Rattle.terminal.specs.Shown.{spoken_in}
use Rattle.terminal.proofs.is_new.Goals.{then-not-hears-via-then-not-hears, then-not-hears-via-else-not-hears+then-silent}
use Rattle.terminal.proofs.is_new.Goals as goal

pub returns-then-not-hears : goal.returns-then-not-hears
unfolding is_new
returns-then-not-hears c =
    elim c.then-not-hears.branch [
      | then-not-hears-via-then-not-hears w ↦ sym (and_no_l _ _ w.if-not-hears.true)
      | then-not-hears-via-else-not-hears+then-silent w ↦ sym (and_no_r _ _ (and_no_l _ _ (not_yes (sym w.silent.ensures ∙ w.if-silent.true))))
    ]

pub returns : goal.returns
unfolding is_new spoken_in
returns c = c.lacks.ensures
    ∙ (λ i.
    leb c.args.note.now.edition (c.edition_of.ensures i)
    and not (among (c.layout_of.ensures i) (in_edition (c.edition_of.ensures i) (spoken_in c.args.note.now))))
    ∙ sym (and_yes _ _ c.if-not-hears.false ∙ and_yes _ _ (not_i (sym c.silent.ensures ∙ c.if-silent.false)))
