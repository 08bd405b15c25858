use Rattle.partition.specs.Search.{Least, PartOfOne}
use Rattle.partition.proofs.groups.of_all.Given as goal

abbrev pub invariant-loop-i : goal.invariant-loop-i
invariant-loop-i l = Least l.site.plan (PartOfOne l.site.plan l.i) l.best l.least
