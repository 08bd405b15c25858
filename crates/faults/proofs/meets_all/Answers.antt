use mathlib.Core.Path.{◌≡◌, refl, ap, ◌∙◌}
use mathlib.Core.Bool.{Bool, not, ◌||◌}
use native.Mathlib.Omega.{arith}
use borrow.Author.Rules.{rules}
use lib.ListN.{get_or}
use mir.Val.{Fits}
use mir.Syntax.{w32}
use Rattle.sets.specs.Tests.{◌and◌}
use Rattle.sets.specs.Sets.{mem, all, some}
use Rattle.sets.proofs.Laws.{some_turn}
use Rattle.sets.proofs.Operations.{test_apart}
use Rattle.faults.proofs.meets_all.Goals as goal

pub loop-other-init : goal.loop-other-init
unfolding some
loop-other-init c = refl

pub loop-other-preserved : goal.loop-other-preserved
loop-other-preserved c = let turn = c.loop-other in let a = c.args in let set : Fits w32 a.row = search rules in ap (λ (b : Bool). turn.missed || b) (test_apart 32 a.row (get_or a.others turn.other-index 0) set.fits) ∙ some_turn turn.other-index (λ k. all 32 (λ j. not (mem j a.row and mem j (get_or a.others k 0)))) turn.missed turn.invariant

pub returns : goal.returns
returns c = let e : c.loop-other.other-index ≡ 16 = omega arith in ap not (rw e at c.loop-other.invariant)
