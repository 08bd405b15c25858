-- `newest` meets its contract. The invariant: `best` is the highest that is found from those below `j`, and whoever has left `rest` has been looked at. Assumes nothing.
use Rattle.terminal.proofs.Editions.{Seen}
use Rattle.terminal.proofs.choosing.newest.Given as goal

abbrev pub invariant-loop-j : goal.invariant-loop-j
invariant-loop-j l = Seen l.n l.source l.bound l.heard l.notes l.held l.j l.best l.rest
