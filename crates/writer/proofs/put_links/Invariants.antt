-- The loop's invariant is `Putting`. Assumes nothing.
use Rattle.writer.proofs.WriteLaws.{Putting}
use Rattle.writer.proofs.put_links.Given as goal

abbrev pub invariant-loop-k : goal.invariant-loop-k
invariant-loop-k l = Putting l.p l.initial.out l.out l.at l.k
