-- What the contracts of the verdict's texts cite (Verdict), drawing B, and the claims about deaf terminals and about the quoting desk.
pub mod Verdict
pub mod DrawingB
pub mod Deaf
pub mod Quote
