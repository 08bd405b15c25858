-- `voters` meets its contract. Assumes nothing.
use borrow.Author.Rules.{rules}
use mathlib.Core.Path.{◌∙◌}
use Rattle.sets.specs.Tests.{◌and◌}
use Rattle.sets.proofs.Masks.{mask_few}
use Rattle.sets.specs.Sets.{mem}
use Rattle.terminal.specs.Rule.{among}
use Rattle.terminal.specs.Shown.{note_of, values_in}
use Rattle.terminal.specs.Votes.{voters_in}
use Rattle.terminal.proofs.choice.voters.Goals as goal

pub returns : goal.returns
unfolding voters_in ◌and◌
returns c =
    let a = c.args in
    c.those.ensures (λ j. mem j a.neighbours and among a.value (values_in (note_of a.notes.now j))) (λ j b k h. search rules) ∙ mask_few a.n _ c.requires.0
