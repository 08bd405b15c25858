-- The closing is what is said of those who wait. Assumes nothing.
use Rattle.text.specs.Phrases.{phrase}
use Rattle.wording.specs.Sentence.{agreeing, closing}
use Rattle.wording.proofs.closed.Goals as goal

pub returns : goal.returns
unfolding phrase agreeing closing
returns c = c.said_of.ensures
