-- What a plan may be, how many neighbours can't all be bad, what a notice is, and what a run is given.
pub mod Quorum
pub mod Notice
pub mod Words
