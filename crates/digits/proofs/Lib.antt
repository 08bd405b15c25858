-- The laws of digits: what callers use of them (Laws).
pub mod Laws
