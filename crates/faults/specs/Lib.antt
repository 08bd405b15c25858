-- What the check of a fault set cites.
pub mod Rows
pub mod Check
