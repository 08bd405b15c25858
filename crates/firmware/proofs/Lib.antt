-- The laws of a board's record.
pub mod Laws
