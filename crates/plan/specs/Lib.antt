-- What the contract of the plan's check cites, and how the layers above read a plan.
pub mod Plan
pub mod Deaf
