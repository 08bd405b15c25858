-- What it holds, against the bytes. Assumes nothing.
use Rattle.text.proofs.Phrases.{same_as}
use Rattle.text.proofs.Text.is.Goals as goal

pub returns : goal.returns
returns c = same_as _ _ c.held.ensures c.eq.ensures
