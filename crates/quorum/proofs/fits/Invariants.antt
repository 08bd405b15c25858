use mathlib.Core.Path.{◌≡◌}
use lib.ListN.{get_or}
use Rattle.sets.specs.Tests.{◌implies◌}
use Rattle.sets.specs.Sets.{mem, all, some}
use Rattle.quorum.proofs.fits.Given as goal

abbrev pub invariant-loop-group : goal.invariant-loop-group
invariant-loop-group l = l.found ≡ some l.group-index (λ k. all 32 (λ j. mem j l.who implies mem j (get_or l.fn.groups k 0)))
