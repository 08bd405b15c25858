-- What is in both, or all. Assumes nothing.
use Rattle.partition.proofs.Members.{some_both}
use Rattle.partition.proofs.branch.narrowed.Goals as goal

pub returns-then-of-s-ne0 : goal.returns-then-of-s-ne0
returns-then-of-s-ne0 c = some_both c.args.of c.args.s c.if-of-s-ne0.true

pub returns : goal.returns
returns c = record { some = c.requires; inside = λ i h. h }
