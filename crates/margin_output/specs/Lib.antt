-- What the contract of the margins' text cites.
pub mod Margins
pub mod Counts
pub mod Printed
