-- The theorems, in the order in which they are read.
pub mod Offices
pub mod Steps
pub mod Rounds
pub mod Safety
pub mod Liveness
pub mod Silence
pub mod Demand3
pub mod Margin
pub mod SharedRounds
pub mod Agreement
pub mod Drawings
