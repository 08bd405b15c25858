-- No byte. Assumes nothing.
use mathlib.Core.Path.{refl}
use Rattle.text.specs.Texts.{held}
use Rattle.text.proofs.empty.Goals as goal

pub returns : goal.returns
unfolding held
returns c = refl
