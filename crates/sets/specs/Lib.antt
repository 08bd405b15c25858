-- What the contracts of this crate cite, and what the layers above state their own rules with.
pub mod Tests
pub mod Causes
pub mod Tables
pub mod Sets
