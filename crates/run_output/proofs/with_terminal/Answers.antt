-- A bad terminal's line, or its state's. Assumes nothing.
use Rattle.run_output.proofs.SiteLaws.{says_bad, says_good}
use Rattle.run_output.proofs.with_terminal.Goals as goal

pub returns-then-bad : goal.returns-then-bad
returns-then-bad c = says_bad _ _ _ _ _ c.if-bad.true c.with_line.ensures

pub returns : goal.returns
returns c = says_good _ _ _ _ _ c.if-bad.false c.with_good.ensures
