-- The laws of a line's bytes and of its frame that the proofs of this crate cite; Fits, of what a frame holds, is for callers.
mod ByteLaws
mod Cases
mod FrameLaws
pub mod Fits
