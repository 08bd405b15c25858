-- The definitions that the run rests on, in the order in which they are read.
pub mod Run
pub mod Demand3
pub mod Margin
pub mod Drawings
pub mod Channel
