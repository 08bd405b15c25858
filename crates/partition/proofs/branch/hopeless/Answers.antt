use lib.Bits.{bit_and}
use lib.Dec.{ltb}
use native.Mathlib.Omega.{arith}
use Rattle.plan.proofs.Laws.{sound}
use Rattle.sets.proofs.Masks.{byte_le}
use Rattle.partition.proofs.Bounds.{hopeless_own, hopeless_heard}
use Rattle.partition.proofs.branch.hopeless.Goals as goal

pub overflow_add-need : goal.overflow_add-need
overflow_add-need c = let s = sound _ c.args.site.now.sound in let l = s.f_below _ c.requires.0 in let t = s.twenty in omega arith

pub overflow_add-need-2 : goal.overflow_add-need-2
overflow_add-need-2 c = let s = sound _ c.args.site.now.sound in let l = s.f_below _ c.requires.0 in let t = s.twenty in omega (arith, byte_le (ltb c.args.inn (bit_and c.args.best 1048575)))

pub returns-then-need-own : goal.returns-then-need-own
returns-then-need-own c = let s = c.requires in λ e. hopeless_own _ (sound _ c.args.site.now.sound) _ s.0 _ _ s.1 s.2 _ _ s.3 c.if-need-own.true

pub returns : goal.returns
returns c = let s = c.requires in λ e. hopeless_heard _ (sound _ c.args.site.now.sound) _ s.0 _ _ s.1 s.2 _ _ s.3 _ c.if-need-own.false c.over.ensures e
