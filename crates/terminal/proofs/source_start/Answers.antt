-- `source_start` meets its contract: twenty notes without a value show that nothing is heard. Assumes nothing.
use mathlib.Core.Path.{ap, ◌∙◌}
use lib.ListN.{replicate}
use Rattle.terminal.specs.declared.State.TheVariants.{Taken}
use Rattle.terminal.specs.declared.Note.{Note}
use Rattle.terminal.proofs.Shown.{shown_nothing}
use Rattle.terminal.proofs.source_start.Goals as goal

pub returns : goal.returns
returns c = ap (λ (m : Note). record { state = Taken 0 c.args.notice; round = 0; notes = replicate 20 m }) c.no_note.ensures ∙ shown_nothing _
