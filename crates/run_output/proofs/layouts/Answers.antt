-- Each place holds the word's layout. Assumes nothing.
use Rattle.std.proofs.Common.{rules}
use Rattle.sets.proofs.Filled.{filled}
use Rattle.run_output.proofs.layouts.Goals as goal

pub returns : goal.returns
returns c = filled _ _ _ 0 800 c.from_fn.result (λ k y q l call. search rules) c.from_fn.ensures.items
