-- The lines (LineLaws), and what is printed of an accepted file (Printed).
mod LineLaws
pub mod Printed
