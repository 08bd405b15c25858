-- The text on a file, what was put of it, and the laws for callers.
pub mod Laws
