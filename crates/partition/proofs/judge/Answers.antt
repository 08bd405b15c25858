-- The search's set read as a verdict. Assumes nothing.
use Rattle.closure.specs.Verdict.{verdict}
use Rattle.partition.proofs.Laws.{memory_passes, memory_fails, memory_below}
use Rattle.partition.proofs.judge.Goals as goal

pub returns-in_err-f : goal.returns-in_err-f
unfolding verdict
returns-in_err-f c = rw c.from_residual.ensures (memory_passes _ _ c.in_err-f.ensures)

pub reach-l-requires : goal.reach-l-requires
reach-l-requires c = memory_below _ _ c.in_ok-f.ensures

pub returns : goal.returns
unfolding verdict
returns c = memory_fails _ _ _ c.in_ok-f.ensures _ _ c.reach-l.ensures c.outside-r.ensures
