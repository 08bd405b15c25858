-- Each place holds how its terminal stands. Assumes nothing.
use borrow.Author.Rules.{rules}
use Rattle.partition.specs.declared.Standing.TheVariants.{Absent}
use Rattle.sets.proofs.Filled.{filled}
use Rattle.partition.proofs.standings.standings.Goals as goal

pub returns : goal.returns
returns c = filled _ _ _ Absent 20 c.from_fn.result (λ k y q l call. search rules) c.from_fn.ensures.items
