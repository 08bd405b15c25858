use mathlib.Core.Path.{◌≡◌}
use mathlib.Core.Bool.{true}
use lib.Dec.{eqb, ltb}
use lib.ListN.{get_or}
use Rattle.sets.specs.Tests.{pick}
use Rattle.sets.specs.Sets.{all}
use Rattle.quorum.specs.Quorum.{others}
use Rattle.quorum.proofs.places_sound.Given as goal

abbrev pub invariant-loop-i : goal.invariant-loop-i
invariant-loop-i l = all l.i (λ k. pick (ltb k l.count) (others l.n l.source (get_or l.groups k 0)) (eqb (get_or l.groups k 0) 0)) ≡ true
