-- The table's lines and counts (TableLaws), that they are the plan's (AnswerLaws), and what is printed of an accepted file (Printed).
mod TableLaws
mod AnswerLaws
pub mod Printed
