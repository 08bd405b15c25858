-- What the contracts of every text function cite.
pub mod OnFile
