-- What the contracts of digits cite, in the order in which it is read.
pub mod Digits
pub mod BothWays
