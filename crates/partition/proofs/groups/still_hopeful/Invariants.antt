use Rattle.sets.specs.Sets.{mem, count}
use Rattle.partition.specs.Search.{Hopeful}
use Rattle.partition.proofs.groups.still_hopeful.Given as goal

abbrev pub invariant-loop-rest : goal.invariant-loop-rest
invariant-loop-rest l = Hopeful l.site.plan l.all l.hopeful l.rest

abbrev pub decreases-loop-rest : goal.decreases-loop-rest
decreases-loop-rest l = count l.site.plan.n (λ i. mem i l.rest)
