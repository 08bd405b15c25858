-- The half by computation. Assumes nothing.
use borrow.Author.Rules.{rules}
use Rattle.quorum.specs.Notice.{layout_of}
use Rattle.quorum.proofs.layout_of.Goals as goal

pub returns : goal.returns
unfolding layout_of
returns c = search rules
