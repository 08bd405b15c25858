use Prim.Native.Nat.{◌-◌}
use Rattle.sets.specs.Sets.{mem, count}
use Rattle.partition.specs.Search.{Grown}
use Rattle.partition.proofs.bound.settled.Given as goal

abbrev pub invariant-loop-s : goal.invariant-loop-s
invariant-loop-s l = Grown l.site.plan l.out l.known l.s

abbrev pub decreases-loop-s : goal.decreases-loop-s
decreases-loop-s l = l.site.plan.n - count l.site.plan.n (λ i. mem i l.s)
