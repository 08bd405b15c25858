-- The highest digit that is set. Assumes nothing.
use Rattle.partition.proofs.Members.{highest_mem}
use Rattle.partition.proofs.branch.highest.Goals as goal

pub overflow_sub-result : goal.overflow_sub-result
overflow_sub-result c = (highest_mem c.args.s c.requires c.ranges.s.fits).0

pub returns : goal.returns
returns c = (highest_mem c.args.s c.requires c.ranges.s.fits).1
