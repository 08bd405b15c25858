-- `counts_sound` meets its contract. The invariant: the counts of the terminals passed are sound, and each of their notes has forty places. Assumes nothing.
use Prim.Native.Nat.{ℕ, ◌<◌}
use mathlib.Core.Path.{◌≡◌}
use mathlib.Core.Bool.{true}
use lib.Dec.{leb}
use lib.ListN.{length}
use Rattle.sets.specs.Tests.{◌implies◌}
use Rattle.sets.specs.Sets.{mem, all}
use Rattle.terminal.specs.Shown.{note_of}
use Rattle.terminal.proofs.counts_sound.Given as goal

abbrev pub invariant-loop-j : goal.invariant-loop-j
invariant-loop-j l =
    (all l.j (λ i. mem i l.heard implies leb (note_of l.notes i).count l.round) ≡ true) × ((i : ℕ) → i < l.j → length (note_of l.notes i).values ≡ 40)
