-- The definitions that the verdict rests on, in the order in which they are read; Deaf is a claim.
pub mod FaultSet
pub mod Closure
pub mod Verdict
pub mod Answer
pub mod Deaf
pub mod Quote
pub mod Margin
