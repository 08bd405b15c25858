-- The laws that this crate's proofs and the layers above cite.
pub mod Bools
pub mod Causes
pub mod Tables
pub mod Filled
pub mod Digits
pub mod Laws
pub mod Masks
pub mod Operations
pub mod Partition
