-- The loop's invariant: the line is all digits exactly if it is from digit i on, and the bytes are those of the digits before it. Assumes nothing.
use mathlib.Core.Path.{◌≡◌}
use lib.ListN.{drop}
use Rattle.lines.specs.Bytes.{all_digits}
use Rattle.lines.proofs.ByteLaws.{Held}
use Rattle.lines.proofs.bytes_of.Given as goal

abbrev pub invariant-loop-i : goal.invariant-loop-i
invariant-loop-i l = (all_digits l.line ≡ all_digits (drop l.i l.line)) × Held l.line l.i l.first
