use native.Mathlib.Omega.{arith}
use Rattle.plan.proofs.Laws.{sound}
use Rattle.partition.proofs.Best.{whole, whole_all}
use Rattle.partition.proofs.search.least.Goals as goal

pub overflow_cast-f : goal.overflow_cast-f
overflow_cast-f c = let s = sound _ c.args.site.now.sound in let l = s.f_below _ c.in-Most.is in let t = s.twenty in omega arith

pub inside-requires : goal.inside-requires
inside-requires c = let s = c.args.site.now in whole _ s.sound _ c.singleton-source.ensures _ c.in-Most.is _ s.hearers_are

pub returns-in-Most : goal.returns-in-Most
returns-in-Most c = whole_all _ c.args.site.now.sound _ c.singleton-source.ensures c.inside.ensures
