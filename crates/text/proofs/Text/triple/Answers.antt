-- The high byte and then the pair below it. Assumes nothing.
use Rattle.text.specs.Digits.{hex_triple}
use Rattle.text.proofs.Laws.{then}
use Rattle.text.proofs.Text.triple.Goals as goal

pub returns : goal.returns
unfolding hex_triple
returns c = then _ _ _ c.byte.ensures c.pair.ensures
