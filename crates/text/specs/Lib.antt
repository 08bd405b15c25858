-- What the contracts of a text cite, in the order in which it is read.
pub mod Digits
pub mod Texts
pub mod Phrases
