use mathlib.Core.Path.{sym}
use Rattle.partition.proofs.Laws.{reply_checked, reply_refused}
use Rattle.partition.proofs.check_witness.Goals as goal

pub accepts-requires : goal.accepts-requires
accepts-requires c = sym c.in_ok-check.ensures

pub returns : goal.returns
returns c = reply_checked _ _ _ _ _ (sym c.in_ok-check.ensures) c.accepts.ensures

pub returns-in_err-check : goal.returns-in_err-check
returns-in_err-check c = reply_refused _ _ _ _ _ _ c.from_residual.ensures.1 c.in_err-check.ensures
