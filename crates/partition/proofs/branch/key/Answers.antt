-- The members of a set of twenty terminals, counted in a whole word. Assumes nothing.
use native.Mathlib.Omega.{arith}
use Rattle.sets.specs.Sets.{size}
use Rattle.sets.proofs.Masks.{ones_count}
use Rattle.partition.specs.Search.{key}
use Rattle.partition.proofs.branch.key.Goals as goal

pub returns : goal.returns
unfolding key size
returns c = omega (arith, ones_count 20 c.args.s c.requires)
