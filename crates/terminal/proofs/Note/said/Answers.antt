-- `said` meets its contract. Assumes nothing.
use mathlib.Core.Path.{refl}
use Rattle.terminal.specs.Shown.{values_in}
use Rattle.terminal.proofs.Note.said.Goals as goal

pub returns : goal.returns
unfolding values_in
returns c = refl
