-- The list's length decides. Assumes nothing.
use mathlib.Core.Path.{sym}
use native.Mathlib.Omega.{arith}
use mathlib.Core.Path.{ap}
use lib.ListN.{length}
use Rattle.text.proofs.Laws.{put_front, put_short}
use Rattle.text.proofs.Text.put.Goals as goal

pub returns-then-held-out-clause-out_after : goal.returns-then-held-out-clause-out_after
returns-then-held-out-clause-out_after c = put_front _ _ c.held-held.ensures c.copy_from_slice.ensures.after c.if-held-out.true

pub returns-else-held-out-clause-out_after : goal.returns-else-held-out-clause-out_after
returns-else-held-out-clause-out_after c = sym (put_short _ _ (omega (arith, ap length c.held-held.ensures)))
