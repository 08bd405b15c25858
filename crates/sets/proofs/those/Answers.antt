use Prim.Native.Nat.{ℕ, ◌<◌, min}
use mathlib.Core.Path.{◌≡◌, refl, ap, ◌∙◌}
use native.Mathlib.Omega.{arith}
use Rattle.sets.specs.Sets.{bit, mask}
use Rattle.sets.proofs.Masks.{next_bit, byte_bit}
use Rattle.sets.proofs.those.Goals as goal

pub loop-j-init : goal.loop-j-init
unfolding mask
loop-j-init g c = λ P h. refl

pub loop-j-preserved : goal.loop-j-preserved
loop-j-preserved g c =
    let l = c.loop-j in
    let small : l.j < min c.args.n 32 = omega arith in
    λ P h.
    next_bit _ P _ _ (omega arith) (l.invariant P h) (byte_bit c.test-one.result ∙ ap bit (h l.j c.test-one.result small c.test-one.ensures))

pub returns : goal.returns
returns g c =
    let e : c.loop-j.j ≡ min c.args.n 32 = omega arith in λ P h. c.loop-j.invariant P h ∙ ap (λ (k : ℕ). mask k P) e
