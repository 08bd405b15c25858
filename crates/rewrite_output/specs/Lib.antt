-- What the contract of a plan's text anew cites.
pub mod Rewritten
