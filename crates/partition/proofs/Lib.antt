-- How words computed from a plan's rows are the theory's sets (Rows); the search: sets and keys (Members), what it rules out (Bounds),
-- a turn by groups (Sweeps), a part cut in two (Halves), least keys (Leasts), its parts for a bound f (Parts) and for groups (Cuts), and its answer (Best); the witness check's tests
-- (Tests); and the laws for callers (Laws).
mod Rows
mod Members
mod Bounds
mod Sweeps
mod Halves
mod Leasts
mod Parts
mod Cuts
mod Lows
pub mod Sheets
mod Best
mod Tests
pub mod Laws
