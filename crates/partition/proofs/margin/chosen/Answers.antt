-- Some of some of the free terminals. Assumes nothing.
use Rattle.partition.proofs.margin.chosen.Goals as goal

pub returns : goal.returns
returns c = c.narrowed-near.ensures.inside _ (c.narrowed-nearest.ensures.inside _ (c.widest.ensures.inside _ c.highest-2.ensures))
