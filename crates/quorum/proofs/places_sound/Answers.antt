use mathlib.Core.Path.{◌≡◌, sym, ◌∙◌}
use native.Mathlib.Omega.{arith}
use Rattle.sets.proofs.Laws.{all_i, all_no, all_next}
use Rattle.quorum.proofs.places_sound.Goals as goal

pub loop-i-init : goal.loop-i-init
loop-i-init c = all_i 0 _ (λ i k. absurd (omega arith))

pub loop-i-preserved : goal.loop-i-preserved
loop-i-preserved c = all_next _ _ c.loop-i.invariant (sym c.place_sound.ensures ∙ c.if-not-place_sound.false)

pub returns-then-not-place_sound : goal.returns-then-not-place_sound
returns-then-not-place_sound c = sym (all_no 16 _ c.loop-i.i c.loop-i-test.true (sym c.place_sound.ensures ∙ c.if-not-place_sound.true))

pub returns : goal.returns
returns c = let e : c.loop-i.i ≡ 16 = omega arith in sym (rw e at c.loop-i.invariant)
