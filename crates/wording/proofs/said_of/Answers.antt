-- The numbers, and the phrase by how many there are. Assumes nothing.
use Rattle.wording.proofs.Listings.{said_one, said_several}
use Rattle.wording.proofs.said_of.Goals as goal

pub returns-then-s-eq1 : goal.returns-then-s-eq1
returns-then-s-eq1 c = said_one c.args.n c.args.s c.requires.1 _ _ _ c.with_names-named.ensures c.if-s-eq1.true c.phrase.ensures

pub returns : goal.returns
returns c = said_several c.args.n c.args.s c.requires.1 _ _ _ c.with_names-named.ensures c.if-s-eq1.false c.phrase-2.ensures
