-- Each place holds what was said. Assumes nothing.
use borrow.Author.Rules.{rules}
use Rattle.sets.proofs.Filled.{filled}
use Rattle.terminal.proofs.channel.notices.Goals as goal

pub returns : goal.returns
returns c = filled _ _ _ 0 20 c.from_fn.result (λ k y q l call. search rules) c.from_fn.ensures.items
