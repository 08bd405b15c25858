use Rattle.writer.proofs.WriteLaws.{PuttingGroups}
use Rattle.writer.proofs.put_groups.Given as goal

abbrev pub invariant-loop-i : goal.invariant-loop-i
invariant-loop-i l = PuttingGroups l.p.bound.groups l.i-end l.initial.out l.out l.from l.i
