use Rattle.plan.proofs.Laws.{sound}
use Rattle.partition.proofs.Rows.{direct_by}
use Rattle.partition.proofs.Tests.{cut_test}
use Rattle.partition.proofs.check.cut_off.Goals as goal

pub returns : goal.returns
returns c = cut_test _ (sound _ c.requires) _ _ _ _ (direct_by _ _ _ _ c.singleton.ensures c.over-hearers.ensures) c.hearing.ensures
