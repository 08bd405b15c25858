-- Some of some of the free terminals. Assumes nothing.
use Rattle.partition.proofs.branch.chosen.Goals as goal

pub returns : goal.returns
returns c = c.narrowed.ensures.inside _ (c.widest.ensures.inside _ c.highest.ensures)
