-- No number from n on was found. Assumes nothing.
use Prim.Native.Nat.{◌≤◌}
use mathlib.Core.Path.{◌≡◌}
use Rattle.sentence_output.specs.Heard.{terminals_below, terminals_in}
use Rattle.sentence_output.proofs.entry.terminals.Given as goal

abbrev pub invariant-loop-n : goal.invariant-loop-n
invariant-loop-n l = (2 ≤ l.n) × (terminals_below l.n l.file ≡ terminals_in l.file)
