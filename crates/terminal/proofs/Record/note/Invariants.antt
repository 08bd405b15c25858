-- `note` meets its contract. The invariant: the notes of the terminals below `j` have what is new, those of the others and the rest of the record are as they
-- were. Assumes nothing.
use lib.ListN.{get_or}
use Rattle.terminal.proofs.Noting.{NotedBelow}
use Rattle.terminal.proofs.Record.note.Given as goal

abbrev pub invariant-loop-j : goal.invariant-loop-j
invariant-loop-j l = NotedBelow l.heard (λ i. get_or l.said i 0) l.initial.self l.j l.self
