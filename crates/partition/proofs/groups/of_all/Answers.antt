use Prim.Native.Nat.{ℕ}
use mathlib.Core.Path.{◌≡◌, subst}
use native.Mathlib.Omega.{arith}
use Rattle.quorum.specs.Quorum.{group_at}
use Rattle.partition.specs.Search.{Least, PartOfOne}
use Rattle.partition.proofs.Cuts.{groups_next, group_together, groups_all}
use Rattle.partition.proofs.groups.of_all.Goals as goal

pub of_group-least-requires : goal.of_group-least-requires
unfolding group_at
of_group-least-requires c = let g = c.requires in (group_together _ c.args.site.now.sound _ g.1 c.loop-i.i c.loop-i-test.true, c.loop-i.invariant.below, omega arith)

pub loop-i-preserved : goal.loop-i-preserved
unfolding group_at
loop-i-preserved c = groups_next _ _ c.loop-i.invariant c.of_group-least.ensures

pub returns : goal.returns
returns c = let g = c.requires in let e : c.loop-i.i ≡ 16 = omega arith in groups_all _ c.args.site.now.sound _ g.1 (subst (λ (k : ℕ). Least c.args.site.now.plan (PartOfOne c.args.site.now.plan k) c.args.best c.loop-i.least) e c.loop-i.invariant)
