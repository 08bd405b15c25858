-- Where one plan passes, another does (Carries); how many a terminal hears (Heard); the greatest bound (Heights); what links cost (Links, Rows); and what the
-- function answers (Answers).
mod Carries
mod Heard
mod Heights
pub mod Links
pub mod Rows
pub mod Answers
