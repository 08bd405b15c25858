-- The laws of a text: what callers use of texts one after the other and of what is put (Laws).
pub mod Laws
pub mod Phrases
