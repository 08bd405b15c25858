-- The laws of the two texts, and what is printed.
pub mod Entries
pub mod Answers
pub mod Printed
