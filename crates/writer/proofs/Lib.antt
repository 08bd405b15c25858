-- The laws of a plan that is written and read back, the round trip of an accepted file, and what the writer answers on a sound plan (Laws).
pub mod Digits
pub mod Lines
pub mod ReadBack
mod TextHead
mod TextLinks
pub mod RoundTrip
pub mod WrittenBack
mod WriteLaws
pub mod Laws
