use Prim.Native.Nat.{ℕ}
use mathlib.Core.Path.{◌≡◌, refl, ap, ◌∙◌}
use mathlib.Core.List.{map}
use native.Mathlib.Omega.{arith}
use Rattle.terminal.specs.Rule.{least, least_from}
use Rattle.terminal.specs.Shown.{values_in}
use Rattle.terminal.proofs.Walks.{least_turn}
use Rattle.terminal.proofs.choice.least_of_all.Goals as goal

pub loop-j-init : goal.loop-j-init
unfolding least
loop-j-init c = refl

pub loop-j-preserved : goal.loop-j-preserved
loop-j-preserved c = c.lesser-best.ensures ∙ least_turn _ _ _ _ c.loop-j.invariant c.least_from.ensures

pub returns : goal.returns
returns c =
    let a = c.args in
    let e : c.loop-j.j ≡ a.n = omega arith in
    c.loop-j.invariant ∙ ap (λ (k : ℕ). least k (least_from a.n a.bound a.heard (map values_in a.notes.now))) e
