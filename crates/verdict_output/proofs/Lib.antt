-- What the verdict's line says (LineLaws), the laws for callers (Laws), drawing B, deaf terminals and the quoting desk.
pub mod LineLaws
pub mod Laws
pub mod DrawingB
pub mod Deaf
pub mod Quote
