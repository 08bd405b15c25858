use native.Mathlib.Omega.{arith}
use Rattle.partition.proofs.Cuts.{least_small}
use Rattle.partition.proofs.groups.least.Goals as goal

pub returns-then-small-lt3145728 : goal.returns-then-small-lt3145728
returns-then-small-lt3145728 c = least_small _ (omega arith) c.if-small-lt3145728.true c.of_all-small.ensures

pub returns : goal.returns
returns c = c.of_all.ensures
