use lib.Dec.{ltb}
use lib.ListN.{get_or}
use borrow.Author.Rules.{rules}
use Rattle.partition.specs.Search.{surely, hopeful}
use Rattle.partition.proofs.margin.hopeful.Goals as goal

pub returns : goal.returns
unfolding hopeful
returns c =
    let a = c.args in
    c.those.ensures (λ b. ltb (surely (get_or a.rows b 0) a.f a.out a.sure) (get_or a.counts b 0)) (λ b x k h. search rules)
