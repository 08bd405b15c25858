-- The half by computation. Assumes nothing.
use borrow.Author.Rules.{rules}
use Rattle.quorum.specs.Notice.{edition_of}
use Rattle.quorum.proofs.edition_of.Goals as goal

pub returns : goal.returns
unfolding edition_of
returns c = search rules
