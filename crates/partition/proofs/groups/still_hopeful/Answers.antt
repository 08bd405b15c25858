use Prim.Native.Nat.{ℕ, ◌<◌}
use mathlib.Core.Path.{sym, ◌∙◌, subst}
use Rattle.sets.specs.Sets.{mem, count}
use Rattle.plan.proofs.Laws.{sound}
use Rattle.partition.specs.Search.{Hopeful}
use Rattle.partition.proofs.Members.{less_by}
use Rattle.partition.proofs.Cuts.{hopeful_start, hopeful_next, hopeful_less, hopeful_none}
use Rattle.partition.proofs.groups.still_hopeful.Goals as goal

pub loop-rest-init : goal.loop-rest-init
loop-rest-init c = hopeful_start _ _ _ c.requires.1

pub reaches-requires : goal.reaches-requires
reaches-requires c = c.requires.0

pub loop-rest-smaller : goal.loop-rest-smaller
loop-rest-smaller c = let a = c.args in subst (λ (x : ℕ). count a.site.now.plan.n (λ i. mem i x) < count a.site.now.plan.n (λ i. mem i c.loop-rest.rest)) (sym (less_by c.loop-rest.rest c.highest-b.result _ c.singleton.ensures)) (hopeful_less _ (sound _ c.args.site.now.sound) _ _ _ _ c.loop-rest.invariant c.highest-b.ensures)

pub loop-rest-preserved : goal.loop-rest-preserved
loop-rest-preserved c = let a = c.args in subst (Hopeful a.site.now.plan a.all a.hopeful) (sym (less_by c.loop-rest.rest c.highest-b.result _ c.singleton.ensures)) (hopeful_next _ (sound _ c.args.site.now.sound) _ _ _ _ c.loop-rest.invariant c.highest-b.ensures (sym c.reaches.ensures ∙ c.if-not-reaches.false))

pub returns : goal.returns
returns c = hopeful_none _ _ _ _ c.loop-rest.invariant c.loop-rest-test.false
