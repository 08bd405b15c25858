-- The counts so far are those of the places passed. Assumes nothing.
use mathlib.Core.Path.{◌≡◌}
use Rattle.margin_output.specs.Counts.{standing_in, tally_of}
use Rattle.margin_output.proofs.counting.counted.Given as goal

abbrev pub invariant-loop-standing : goal.invariant-loop-standing
invariant-loop-standing l = l.t ≡ tally_of l.standing-index (standing_in l.fn.places)
