use Prim.Native.Nat.{ℕ, ◌<◌}
use mathlib.Core.Path.{◌≡◌}
use mathlib.Core.Bool.{not}
use lib.ListN.{length, get_or}
use Rattle.sets.specs.Tests.{◌and◌}
use Rattle.sets.specs.Sets.{mem}
use Rattle.faults.proofs.outside_groups.Given as goal

abbrev pub invariant-loop-i : goal.invariant-loop-i
invariant-loop-i l =
    (length l.masks ≡ 16) × ((k : ℕ) → k < l.i → (j : ℕ) → j < 32 → mem j (get_or l.masks k 0) ≡ mem j l.a and not (mem j (get_or l.groups k 0)))
