-- The theorems, in the order in which they are read.
pub mod Faults
pub mod Growth
pub mod Witness
pub mod Deaf
pub mod Quote
pub mod Margin
