use mathlib.Core.Path.{sym}
use Rattle.partition.proofs.Rows.{direct_by}
use Rattle.partition.proofs.site.of.Goals as goal

pub invariant_of-result : goal.invariant_of-result
invariant_of-result c = record { sound = sym c.in_ok-check.ensures; hearers_are = direct_by _ _ _ _ c.singleton.ensures c.over-hearers.ensures }
