-- All that the layers above use of `enough` (Laws), of notices (Notices), and of a start and the place of a word (Words).
pub mod Laws
pub mod Notices
pub mod Words
