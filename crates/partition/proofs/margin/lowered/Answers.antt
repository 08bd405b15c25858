-- Each place holds the lesser one. Assumes nothing.
use borrow.Author.Rules.{rules}
use Rattle.sets.proofs.Filled.{filled_at}
use Rattle.partition.proofs.margin.lowered.Goals as goal

pub returns : goal.returns
returns c = filled_at _ _ _ 0 20 c.from_fn.result (λ k y q l call. search rules) c.from_fn.ensures.items
