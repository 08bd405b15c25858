-- The laws that this crate's proofs and the layers above cite.
pub mod Ears
pub mod Listings
pub mod Causes
pub mod Lengths
pub mod Hearing
pub mod Telling
pub mod Refusals
pub mod Reading
pub mod Rows
