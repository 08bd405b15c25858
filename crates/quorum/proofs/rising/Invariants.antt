-- The loop's invariant: what is left rises from the last edition so far exactly if all does from the first. Assumes nothing.
use mathlib.Core.Path.{◌≡◌}
use lib.ListN.{drop}
use Rattle.quorum.specs.Notice.{rising}
use Rattle.quorum.proofs.rising.Given as goal

abbrev pub invariant-loop-notice : goal.invariant-loop-notice
invariant-loop-notice l = rising l.last (drop l.notice-index l.later) ≡ rising l.first l.later
