-- The terminals' lines and the run that a file asks for (SiteLaws, on a shared channel SharedLaws), the laws for callers (Laws), and what a start without its rounds byte leads to
-- (RoundsLeftOut).
mod SiteLaws
pub mod SharedLaws
pub mod Laws
pub mod RoundsLeftOut
pub mod OldRuns
