-- `layout_in` meets its contract: nothing is chosen without the source where all are not enough. Assumes nothing.
use mathlib.Core.Path.{sym, ◌∙◌}
use Rattle.terminal.proofs.Editions.{few_choose}
use Rattle.terminal.proofs.choosing.layout_in.Goals as goal

pub returns-then-not-enough : goal.returns-then-not-enough
returns-then-not-enough c = let p = c.requires in
    sym (few_choose _ _ _ _ _ p.0 p.2 (sym c.member.ensures ∙ c.if-not-member.true) (sym c.enough.ensures ∙ c.if-not-enough.true))
