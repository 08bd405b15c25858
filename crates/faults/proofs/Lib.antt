-- The laws that this crate's proofs and the layers above cite.
pub mod Rows
pub mod Laws
