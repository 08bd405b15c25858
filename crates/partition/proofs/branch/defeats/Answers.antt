-- What a fault set leaves out decides. Assumes nothing.
use Rattle.closure.proofs.Faults.{fault_below}
use Rattle.partition.proofs.Parts.{defeats_test}
use Rattle.partition.proofs.branch.defeats.Goals as goal

pub reach-requires : goal.reach-requires
reach-requires c = fault_below _ _ c.requires

pub returns : goal.returns
returns c = defeats_test _ _ _ _ c.requires c.reach.ensures c.outside.ensures
