use native.Mathlib.Omega.{arith}
use Rattle.plan.proofs.Laws.{sound}
use Rattle.partition.proofs.Bounds.{grown_next, grown_less}
use Rattle.partition.proofs.bound.settled.Goals as goal

pub overflow_mul-f : goal.overflow_mul-f
overflow_mul-f c = let s = sound _ c.args.site.now.sound in let l = s.f_below _ c.requires.0 in let t = s.twenty in omega arith

pub loop-s-smaller : goal.loop-s-smaller
loop-s-smaller c = grown_less _ (sound _ c.args.site.now.sound) _ c.requires.0 _ _ _ _ _ c.loop-s.invariant c.over.ensures c.over-in-loop-s.ensures c.if-next-s.false

pub loop-s-preserved : goal.loop-s-preserved
loop-s-preserved c = grown_next _ (sound _ c.args.site.now.sound) _ c.requires.0 _ _ _ _ _ c.loop-s.invariant c.over.ensures c.over-in-loop-s.ensures
