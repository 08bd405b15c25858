-- What the contracts cite (Sentence, Answers, Heard), the claims about both together (Telling, Rows), and what private functions cite (Ear).
pub mod Sentence
pub mod Answers
pub mod Heard
pub mod Telling
pub mod Rows
pub mod Turn
pub mod Ear
