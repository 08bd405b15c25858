-- `has` meets its contract. The invariant: `found` says whether the value is among the layouts passed. Assumes nothing.
use mathlib.Core.Path.{◌≡◌}
use lib.ListN.{take}
use Rattle.terminal.specs.Rule.{among}
use Rattle.terminal.proofs.Note.has.Given as goal

abbrev pub invariant-loop-layout : goal.invariant-loop-layout
invariant-loop-layout l = l.found ≡ among l.value (take l.layout-index l.layout-items)
