-- The laws of a plan that was found sound.
pub mod Laws
