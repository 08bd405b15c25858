-- The place is that of the script; past the list's end there is silence. Assumes nothing.
use Rattle.quorum.specs.Words.{place_of}
use Rattle.propagation.specs.Run.{script_of}
use native.Mathlib.Omega.{arith}
use Rattle.std.proofs.lemmas.Grind.{common_steps}
use Rattle.simulation.proofs.playing.word.Goals as goal

pub returns : goal.returns
unfolding script_of place_of
returns c = grind (arith, common_steps)
