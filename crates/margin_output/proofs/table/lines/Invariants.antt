-- The lines of the terminals so far. Assumes nothing.
use mathlib.Core.Path.{◌≡◌}
use Rattle.text.specs.Texts.{held}
use Rattle.margin_output.specs.Margins.{standing_lines}
use Rattle.margin_output.specs.Counts.{standing_in}
use Rattle.margin_output.proofs.table.lines.Given as goal

abbrev pub invariant-loop-b : goal.invariant-loop-b
invariant-loop-b l = held l.t ≡ standing_lines l.b (standing_in l.fn.places)
