-- By the two cases of a state. Assumes nothing.
use Rattle.firmware.specs.Board.{board_with, board_of}
use Rattle.firmware.proofs.board_of.Goals.{in-Waiting, in-Taken}
use Rattle.firmware.proofs.board_of.Goals as goal

pub returns : goal.returns
unfolding board_of board_with
returns c = elim c.match-r.branch [ in-Waiting w ↦ simp (w.taken-is, w.in-Waiting.is) | in-Taken w ↦ simp (w.taken-is, w.in-Taken.is) ]
