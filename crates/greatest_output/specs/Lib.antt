-- What the contract of the text cites (Greatest), and the claim about what is printed (Printed).
pub mod Greatest
pub mod Printed
