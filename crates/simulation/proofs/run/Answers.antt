-- The records become what the turns leave, and demand 3 is the theory's. Assumes nothing.
use mathlib.Core.Path.{sym, ◌∙◌}
use Rattle.simulation.proofs.Promise.{lent_room, lent_left, lent_promised}
use Rattle.simulation.proofs.run.Goals as goal

pub run_over-requires : goal.run_over-requires
run_over-requires c = lent_room _ _ _ _ _ _ _

pub returns : goal.returns
returns c =
    let r = c.run_over.ensures in
    let left = r.left ∙ lent_left _ _ _ _ _ _ _ in
    record { outcome = r.outcome; records_after = left; demand3 = λ h. lent_promised _ _ _ _ _ _ _ (sym r.outcome ∙ h) _ left }
