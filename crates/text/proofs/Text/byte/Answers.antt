-- The byte's two digits, one after the other. Assumes nothing.
use Rattle.text.proofs.Laws.{byte_joined}
use Rattle.text.proofs.Text.byte.Goals as goal

pub returns : goal.returns
returns c = byte_joined _ _ _ _ c.high_digit.ensures c.low_digit.ensures c.raw.ensures c.raw-2.ensures
