-- What the contract cites (Greatest, Answer), and the claims about drawings that differ by links (Links, Rows).
pub mod Greatest
pub mod Answer
pub mod Links
pub mod Rows
