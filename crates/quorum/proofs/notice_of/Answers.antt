-- The sum by computation. Assumes nothing.
use borrow.Author.Rules.{rules}
use Rattle.quorum.specs.Notice.{notice_of}
use Rattle.quorum.proofs.notice_of.Goals as goal

pub returns : goal.returns
unfolding notice_of
returns c = search rules
