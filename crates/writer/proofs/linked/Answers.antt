-- The bit of place k. Assumes nothing.
use Rattle.plan.specs.Plan.{heard_by, hears}
use Rattle.writer.proofs.linked.Goals as goal

pub returns : goal.returns
unfolding heard_by hears
returns c = c.member.ensures
