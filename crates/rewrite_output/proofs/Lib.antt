-- A plan file written anew, and the laws for callers.
pub mod Laws
