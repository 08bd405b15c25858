-- The loop's invariant: told from here on, with the current line's bytes so far, the file is what it is from the start. Assumes nothing.
use Rattle.frames.specs.Reading.{both}
use Rattle.frames.specs.Pass.{Going}
use Rattle.frames.proofs.read_lines.Given as goal

abbrev pub invariant-loop-i : goal.invariant-loop-i
invariant-loop-i l = Going l.reader l.text (both l.words l.later) l.at l.i
