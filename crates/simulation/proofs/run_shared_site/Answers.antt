-- The records are what the turns leave, and that they agree is the theory's. Assumes nothing.
use mathlib.Core.Path.{sym, ◌∙◌}
use Rattle.simulation.proofs.SharedPromise.{shared_array_room, shared_array_left, shared_array_promised}
use Rattle.simulation.proofs.run_shared_site.Goals as goal

pub run_shared_over-outcome-requires : goal.run_shared_over-outcome-requires
run_shared_over-outcome-requires c = let f = c.ranges in shared_array_room _ _ _ _ _ _ f.value.fits f.default.fits c.start-records.result

pub returns : goal.returns
returns c =
    let f = c.ranges in
    let r = c.run_shared_over-outcome.ensures in
    let left = r.left ∙ shared_array_left _ _ _ _ _ _ f.value.fits f.default.fits _ c.start-records.ensures in
    record { outcome = r.outcome; records_after = left; agreement = λ h. shared_array_promised _ _ _ _ _ _ f.value.fits f.default.fits (sym r.outcome ∙ h) _ left }
