-- The word and the line end. Assumes nothing.
use native.Mathlib.Omega.{arith}
use Rattle.text.specs.Phrases.{phrase}
use Rattle.text.proofs.Laws.{whole}
use Rattle.sentence_output.specs.Sentence.{pass_line}
use Rattle.sentence_output.proofs.pass_line.Goals as goal

pub returns : goal.returns
unfolding pass_line phrase
returns c = whole c.empty.ensures c.phrase.ensures (omega arith)
