-- The set grows turn by turn, until a turn adds nobody. Assumes nothing.
use Prim.Native.Nat.{◌-◌}
use Rattle.sets.specs.Sets.{mem, count}
use Rattle.partition.specs.Search.{Spreading}
use Rattle.partition.proofs.search.turns.Given as goal

abbrev pub invariant-loop-l : goal.invariant-loop-l
invariant-loop-l g l = Spreading l.fn.site.plan l.s l.wall l.l

abbrev pub decreases-loop-l : goal.decreases-loop-l
decreases-loop-l g l = l.fn.site.plan.n - count l.fn.site.plan.n (λ i. mem i l.l)
