-- The high byte and then the low one. Assumes nothing.
use Rattle.text.specs.Digits.{hex_pair}
use Rattle.text.proofs.Laws.{then}
use Rattle.text.proofs.Text.pair.Goals as goal

pub returns : goal.returns
unfolding hex_pair
returns c = then _ _ _ c.byte.ensures c.byte-2.ensures
