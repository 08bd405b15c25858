-- The number and the line end. Assumes nothing.
use Rattle.sentence_output.proofs.Entries.{says_number}
use Rattle.sentence_output.proofs.entry.number_line.Goals as goal

pub returns : goal.returns
returns c = says_number _ c.empty.ensures c.decimal.ensures c.raw.ensures
