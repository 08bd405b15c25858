-- What the contract of the run's text cites, the claim about a start without its rounds byte, that about runs in the old frames, and
-- that about runs on a shared channel.
pub mod Site
pub mod RoundsLeftOut
pub mod OldRuns
pub mod SharedRuns
