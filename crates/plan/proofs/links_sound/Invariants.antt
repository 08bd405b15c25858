-- The loop's invariant: every row passed is sound. A row that is not decides. Assumes nothing.
use mathlib.Core.Path.{◌≡◌}
use mathlib.Core.Bool.{true}
use lib.ListN.{get_or}
use Rattle.sets.specs.Sets.{all}
use Rattle.plan.specs.Plan.{row_sound}
use Rattle.plan.proofs.links_sound.Given as goal

abbrev pub invariant-loop-b : goal.invariant-loop-b
invariant-loop-b l = all l.b (λ i. row_sound l.n i (get_or l.rows i 0)) ≡ true
