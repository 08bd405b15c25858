-- The bound and the line end. Assumes nothing.
use Rattle.greatest_output.proofs.LineLaws.{says_bound}
use Rattle.greatest_output.proofs.bound_line.Goals as goal

pub returns : goal.returns
returns c = says_bound _ c.empty.ensures c.decimal.ensures c.raw.ensures
