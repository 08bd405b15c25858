-- What the contracts of one line's frame cite, in the order in which it is read.
pub mod Bytes
pub mod Frames
