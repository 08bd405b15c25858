-- The invariant: the lines of the terminals so far. Assumes nothing.
use mathlib.Core.Path.{◌≡◌}
use Rattle.simulation.specs.Answer.{state_of}
use Rattle.text.specs.Texts.{held}
use Rattle.run_output.specs.Site.{site_lines}
use Rattle.run_output.proofs.of_site.Given as goal

abbrev pub invariant-loop-b : goal.invariant-loop-b
invariant-loop-b l = held l.t ≡ site_lines l.form l.b l.faulty (state_of l.records)
