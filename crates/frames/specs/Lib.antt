-- What the contracts of the readers cite, in the order in which it is read; Tells, Archive, Begins, Quote, Margins and Drawing are for claims about files.
pub mod Lines
pub mod Reading
pub mod Causes
pub mod Pass
pub mod Tells
pub mod Archive
pub mod Begins
pub mod Quote
pub mod Margins
pub mod Drawing
