-- What the contracts of the step for C cite.
pub mod Board
