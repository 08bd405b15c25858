-- The word and the line end. Assumes nothing.
use native.Mathlib.Omega.{arith}
use Rattle.text.proofs.Laws.{whole}
use Rattle.greatest_output.specs.Greatest.{tolerance_line}
use Rattle.greatest_output.proofs.none_line.Goals as goal

pub returns : goal.returns
unfolding tolerance_line
returns c = whole c.empty.ensures c.phrase.ensures (omega arith)
