-- The laws of the rule that the layers above cite, so that none of them opens its text, and those of this crate's own loops.
pub mod Values
pub mod Notes
pub mod Newest
mod Walks
pub mod Shown
pub mod Laws
mod Search
mod Editions
mod Noting
mod Refused
pub mod Unheard
pub mod SaidCounts
pub mod SharedChannel
