use Prim.Native.Nat.{◌<◌, ◌^◌}
use Rattle.partition.proofs.groups.decisive.Given as goal

abbrev pub invariant-loop-c : goal.invariant-loop-c
invariant-loop-c l = l.bad < 2 ^ l.site.plan.n
