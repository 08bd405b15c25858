-- How many terminals are left to decide, twice, and one more where inn is new.
use Rattle.std.proofs.Common.{◌+◌, ◌*◌}
use Rattle.partition.proofs.Halves.{left_to}
use Rattle.partition.proofs.margin.+inside_split.Given as goal

abbrev pub decreases-inside : goal.decreases-inside
decreases-inside l = 2 * left_to l.site.now.plan.n l.inn l.out + 1

abbrev pub decreases-split : goal.decreases-split
decreases-split l = 2 * left_to l.site.now.plan.n l.inn l.out
