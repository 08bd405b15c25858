-- Whoever was found is heard by somebody of the set. Assumes nothing.
use Rattle.partition.specs.Search.{Heard}
use Rattle.partition.proofs.bound.heard.Given as goal

abbrev pub invariant-loop-b : goal.invariant-loop-b
invariant-loop-b l = Heard l.rows l.s l.found
