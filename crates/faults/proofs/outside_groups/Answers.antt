use mathlib.Core.Path.{◌≡◌, refl, ◌∙◌}
use native.Mathlib.Omega.{arith}
use borrow.Author.Rules.{rules}
use lib.ListN.{get_or, length-set}
use mir.Val.{Fits}
use mir.Syntax.{w32}
use Rattle.faults.proofs.Rows.{outside_more, mem_outside}
use Rattle.faults.proofs.outside_groups.Goals as goal

pub loop-i-init : goal.loop-i-init
loop-i-init c = (refl, λ i h. absurd (omega arith))

pub loop-i-preserved : goal.loop-i-preserved
loop-i-preserved c = let turn = c.loop-i in let a = c.args in let group : Fits w32 (get_or a.groups turn.i 0) = search rules in (length-set turn.masks turn.i _ ∙ turn.invariant.0, outside_more a.a a.groups turn.masks turn.i _ (let e = turn.invariant.0 in omega arith) (λ j k. mem_outside a.a (get_or a.groups turn.i 0) j group.fits k) turn.invariant.1)

pub returns : goal.returns
returns c = let e : c.loop-i.i ≡ 16 = omega arith in λ i k. c.loop-i.invariant.1 i (omega arith)
