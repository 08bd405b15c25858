-- The records become what the turns leave, and that they agree is the theory's. Assumes nothing.
use mathlib.Core.Path.{sym, ◌∙◌}
use Rattle.simulation.proofs.SharedPromise.{shared_lent_room, shared_lent_left, shared_lent_promised}
use Rattle.simulation.proofs.run_shared.Goals as goal

pub run_shared_over-requires : goal.run_shared_over-requires
run_shared_over-requires c = let f = c.ranges in shared_lent_room _ _ _ _ _ _ f.value.fits f.default.fits _

pub returns : goal.returns
returns c =
    let f = c.ranges in
    let r = c.run_shared_over.ensures in
    let left = r.left ∙ shared_lent_left _ _ _ _ _ _ f.value.fits f.default.fits _ in
    record { outcome = r.outcome; records_after = left; agreement = λ h. shared_lent_promised _ _ _ _ _ _ f.value.fits f.default.fits _ (sym r.outcome ∙ h) _ left }
