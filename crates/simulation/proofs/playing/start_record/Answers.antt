-- The definition's choice by the source's number. Assumes nothing.
use mathlib.Core.Path.{sym, ap, ◌∙◌}
use borrow.Author.Tests.{eq-eqb, ne_eqb}
use Rattle.sets.proofs.Bools.{pick_yes, pick_no}
use Rattle.terminal.specs.Shown.{shown}
use Rattle.propagation.specs.Run.{start_record}
use Rattle.simulation.proofs.playing.start_record.Goals as goal

pub returns-then-t : goal.returns-then-t
unfolding start_record
returns-then-t c = c.source_start.ensures ∙ ap shown (sym (pick_yes _ _ _ (eq-eqb _ _ c.if-t.true)))

pub returns : goal.returns
unfolding start_record
returns c = c.start.ensures ∙ ap shown (sym (pick_no _ _ _ (ne_eqb _ _ c.if-t.false)))
