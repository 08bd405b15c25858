-- `least_of` meets its contract. The invariant: `best` is the least certified value of those passed. Assumes nothing.
use mathlib.Core.Path.{◌≡◌}
use mathlib.Core.List.{map}
use lib.ListN.{take}
use Rattle.terminal.specs.Rule.{least_of, candidate}
use Rattle.terminal.specs.Shown.{values_in}
use Rattle.terminal.proofs.choice.least_of.Given as goal

abbrev pub invariant-loop-value : goal.invariant-loop-value
invariant-loop-value l = l.best ≡ least_of (candidate l.n l.bound l.heard (map values_in l.notes)) (take l.value-index l.value-items)
