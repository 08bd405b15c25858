-- The state's own line. Assumes nothing.
use Rattle.run_output.specs.Site.{good_line}
use Rattle.run_output.proofs.with_good.Goals as goal

pub returns-in-Waiting : goal.returns-in-Waiting
unfolding good_line
returns-in-Waiting c = rw c.in-Waiting.is c.with_line.ensures

pub returns-in-Taken : goal.returns-in-Taken
unfolding good_line
returns-in-Taken c = rw c.in-Taken.is c.with_line-in-Taken.ensures
