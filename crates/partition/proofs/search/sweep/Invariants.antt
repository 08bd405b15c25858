-- Who is still to be looked at gets fewer; where all were, the turn is done. Assumes nothing.
use Rattle.sets.specs.Sets.{mem, count}
use Rattle.partition.proofs.Sweeps.{Sweeping}
use Rattle.partition.proofs.search.sweep.Given as goal

abbrev pub invariant-loop-rest : goal.invariant-loop-rest
invariant-loop-rest l = Sweeping l.site.plan l.wall l.l l.r l.rest

abbrev pub decreases-loop-rest : goal.decreases-loop-rest
decreases-loop-rest l = count l.site.plan.n (λ i. mem i l.rest)
