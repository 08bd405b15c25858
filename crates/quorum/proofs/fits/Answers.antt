use mathlib.Core.Path.{◌≡◌, refl, ap, ◌∙◌}
use native.Mathlib.Omega.{arith}
use mir.Val.{Fits}
use mir.Syntax.{w32}
use borrow.Author.Rules.{rules}
use mathlib.Core.Bool.{Bool, ◌||◌}
use lib.ListN.{get_or}
use Rattle.sets.specs.Tests.{◌implies◌}
use Rattle.sets.specs.Sets.{mem, all, some}
use Rattle.sets.proofs.Operations.{test_inside}
use Rattle.sets.proofs.Laws.{some_turn}
use Rattle.quorum.proofs.fits.Goals as goal

pub loop-group-init : goal.loop-group-init
unfolding some
loop-group-init c = refl

pub loop-group-preserved : goal.loop-group-preserved
loop-group-preserved c =
    let turn = c.loop-group in
    let a = c.args in
    let group : Fits w32 (get_or a.groups turn.group-index 0) = search rules in
    let set : Fits w32 a.who = search rules in
    ap (λ (b : Bool). turn.found || b) (test_inside 32 32 a.who (get_or a.groups turn.group-index 0) (omega arith) set.fits group.fits)
    ∙ some_turn turn.group-index (λ k. all 32 (λ j. mem j a.who implies mem j (get_or a.groups k 0))) turn.found turn.invariant

pub returns : goal.returns
returns c = let e : c.loop-group.group-index ≡ 16 = omega arith in rw e at c.loop-group.invariant
