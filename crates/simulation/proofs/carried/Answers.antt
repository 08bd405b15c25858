-- Each place holds what the list gives it. Assumes nothing.
use Rattle.std.proofs.Common.{rules}
use Rattle.sets.proofs.Filled.{filled}
use Rattle.simulation.proofs.carried.Goals as goal

pub returns : goal.returns
returns c = filled _ _ _ 0 40 _ (λ k y q l call. search rules) c.from_fn.ensures.items
