-- One turn more is the law's. Assumes nothing.
use mathlib.Core.Path.{refl}
use Rattle.simulation.specs.Turns.{played_after}
use Rattle.simulation.proofs.Walk.{turn_place, turn_read}
use Rattle.simulation.proofs.play.Goals as goal

pub loop-init : goal.loop-init
unfolding played_after
loop-init g c make plays = refl

pub loop-preserved : goal.loop-preserved
loop-preserved g c make plays =
    let r = c.requires.ready in
    let room = turn_place r.0 _ c.loop.counter _ _ _ r.1.1 c.loop-test.true (c.loop.invariant r.0 r.1.0) in
    turn_read make _ c.loop.counter _ _ _ _ _ room (c.loop.invariant make plays) (plays.makes _ _ _ c.player-after.ensures) c.next_turn-t.ensures
