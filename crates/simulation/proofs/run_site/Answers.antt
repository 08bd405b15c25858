-- The records are what the turns leave, and demand 3 is the theory's. Assumes nothing.
use mathlib.Core.Path.{sym, ◌∙◌}
use Rattle.simulation.proofs.Promise.{array_room, array_left, array_promised}
use Rattle.simulation.proofs.run_site.Goals as goal

pub run_over-outcome-requires : goal.run_over-outcome-requires
run_over-outcome-requires c = array_room _ _ _ _ _ _ c.start-records.result

pub returns : goal.returns
returns c =
    let r = c.run_over-outcome.ensures in
    let left = r.left ∙ array_left _ _ _ _ _ _ _ c.start-records.ensures in
    record { outcome = r.outcome; records_after = left; demand3 = λ h. array_promised _ _ _ _ _ _ (sym r.outcome ∙ h) _ left }
