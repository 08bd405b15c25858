-- The opening is what is said of those who stay silent. Assumes nothing.
use Rattle.text.specs.Phrases.{phrase}
use Rattle.text.proofs.Phrases.{joined_length}
use Rattle.wording.specs.Sentence.{agreeing}
use Rattle.wording.proofs.Listings.{opened_none, opened_some}
use Rattle.wording.proofs.opened.Goals as goal

pub returns-then-f-eq0 : goal.returns-then-f-eq0
unfolding phrase
returns-then-f-eq0 c = opened_none c.args.n c.args.f c.if-f-eq0.true c.empty.ensures c.phrase.ensures

pub said_of-requires : goal.said_of-requires
said_of-requires c = (c.requires.0, c.requires.1, joined_length _ _ c.phrase-2.ensures)

pub returns : goal.returns
unfolding phrase agreeing
returns c = opened_some c.args.n c.args.f c.if-f-eq0.false c.empty-2.ensures c.phrase-2.ensures c.said_of.ensures
