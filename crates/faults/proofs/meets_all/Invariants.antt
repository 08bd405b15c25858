use mathlib.Core.Path.{◌≡◌}
use mathlib.Core.Bool.{not}
use lib.ListN.{get_or}
use Rattle.sets.specs.Tests.{◌and◌}
use Rattle.sets.specs.Sets.{mem, all, some}
use Rattle.faults.proofs.meets_all.Given as goal

abbrev pub invariant-loop-other : goal.invariant-loop-other
invariant-loop-other l = l.missed ≡ some l.other-index (λ k. all 32 (λ j. not (mem j l.row and mem j (get_or l.fn.others k 0))))
