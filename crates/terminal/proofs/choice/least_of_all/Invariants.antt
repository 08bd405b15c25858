-- `least_of_all` meets its contract. The invariant: `best` is the least that is found from the neighbours below `j`. Assumes nothing.
use mathlib.Core.Path.{◌≡◌}
use mathlib.Core.List.{map}
use Rattle.terminal.specs.Rule.{least, least_from}
use Rattle.terminal.specs.Shown.{values_in}
use Rattle.terminal.proofs.choice.least_of_all.Given as goal

abbrev pub invariant-loop-j : goal.invariant-loop-j
invariant-loop-j l = l.best ≡ least l.j (least_from l.n l.bound l.heard (map values_in l.notes))
