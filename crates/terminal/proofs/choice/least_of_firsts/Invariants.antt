-- `least_of_firsts` meets its contract. The invariant: `best` is the least that is found from those below `j`, and whoever has left `rest` has been looked at.
-- Assumes nothing.
use Rattle.terminal.proofs.Search.{Looked}
use Rattle.terminal.proofs.choice.least_of_firsts.Given as goal

abbrev pub invariant-loop-j : goal.invariant-loop-j
invariant-loop-j l = Looked l.n l.bound l.notes l.first.values l.first.single l.first.fickle l.j l.best l.rest
