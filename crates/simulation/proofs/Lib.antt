-- A bound of places in the list of words (Places), what is heard on a shared channel (Heard), the traversal of turns (Walk), and that its records show those of
-- the rules (Meaning). For callers: which calls are accepted (Causes), and what an accepted one leaves (Promise).
mod Places
mod Heard
mod Walk
mod Meaning
mod SharedMeaning
pub mod Causes
pub mod SharedCauses
pub mod Promise
pub mod SharedPromise
