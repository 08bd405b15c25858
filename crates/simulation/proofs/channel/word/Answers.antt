-- The place is that of the script; past the list's end there is silence. Assumes nothing.
use native.Mathlib.Omega.{arith}
use Rattle.std.proofs.lemmas.Grind.{common_steps}
use Rattle.quorum.specs.Words.{shared_place_of}
use Rattle.simulation.proofs.channel.word.Goals as goal

pub returns : goal.returns
unfolding shared_place_of
returns c = grind (arith, common_steps)
