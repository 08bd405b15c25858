use Prim.Native.Nat.{ℕ}
use mathlib.Core.Path.{◌≡◌, sym, subst, ◌∙◌}
use mathlib.Core.Bool.{true}
use native.Mathlib.Omega.{arith}
use lib.ListN.{get_or}
use Rattle.sets.specs.Sets.{all}
use Rattle.sets.proofs.Laws.{all_i, all_no, all_next}
use Rattle.plan.specs.Plan.{row_sound}
use Rattle.plan.proofs.links_sound.Goals as goal

pub loop-b-init : goal.loop-b-init
loop-b-init c = all_i 0 _ (λ i k. absurd (omega arith))

pub loop-b-preserved : goal.loop-b-preserved
loop-b-preserved c = all_next _ _ c.loop-b.invariant (sym c.row_sound.ensures ∙ c.if-not-row_sound.false)

pub returns-then-not-row_sound : goal.returns-then-not-row_sound
returns-then-not-row_sound c = sym (all_no 20 _ c.loop-b.b c.loop-b-test.true (sym c.row_sound.ensures ∙ c.if-not-row_sound.true))

pub returns : goal.returns
returns c =
    let e : c.loop-b.b ≡ 20 = omega arith in
    sym (subst (λ (k : ℕ). all k (λ i. row_sound c.args.n i (get_or c.args.rows i 0)) ≡ true) e c.loop-b.invariant)
