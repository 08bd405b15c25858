-- The laws that the readers' proofs cite, in the order in which they are read: of a reading that goes on, of a line's causes by a reader, of where the links
-- end, of a plan while it is read, of an accepted frame and what a file keeps of all of them, of the list of later notices while it is filled and in the end, of an accepted file,
-- of what a frame does, of the pass over a file's bytes, and of the file as a whole. EndLaws, Built, Keeps, Accepted, LineLaws and FileLaws are for callers
-- too, and so are Starts, of an accepted file's start and later notices, GroupLaws, of its groups, TextLines, of the lines of a text that is written, Archive, of
-- the two readers of plans, and by the laws of one that takes fewer heads (Taking, and Groupless where it takes none with groups) Margins, Drawing and
-- Quote, of those of margins, of drawings and of the quoting desk.
mod Unless
mod Limits
pub mod EndLaws
pub mod Built
pub mod Keeps
mod Rising
mod Issued
pub mod Accepted
mod Rules
mod TellLaws
pub mod LineLaws
pub mod FileLaws
pub mod Starts
pub mod GroupLaws
pub mod TextLines
pub mod Archive
mod Taking
mod Groupless
pub mod Margins
pub mod Drawing
pub mod Quote
