-- What the contracts of verdict and witness check cite.
pub mod Answer
pub mod Search
pub mod Margins
