-- What the contract of the run cites (Answer, on a shared channel Channel), and what one turn of its walk makes of a record (Turns).
pub mod Turns
pub mod Answer
pub mod Channel
