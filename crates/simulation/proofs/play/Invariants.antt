-- The loop's invariant: the turn and the records are those after as many turns, whatever says what the player makes. Assumes nothing.
use mathlib.Core.Path.{◌≡◌}
use Rattle.simulation.specs.Turns.{Maker, Plays, Played, played_after}
use Rattle.simulation.proofs.play.Given as goal

abbrev pub invariant-loop : goal.invariant-loop
invariant-loop g l =
    (make : Maker) → Plays (goal.F-pre g l.player) (goal.F-post g l.player) make
    → ◌≡◌ {A = Played} (record { turn = l.t; records = l.records }) (played_after make (record { turn = l.fn.first; records = l.initial.records }) l.counter)
