-- What the contracts of the two texts cite (Sentence, Heard), the claim about what is printed (Printed), and what private functions cite (Entered).
pub mod Sentence
pub mod Heard
pub mod Printed
pub mod Entered
