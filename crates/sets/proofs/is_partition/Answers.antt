-- Each return is the definition's test by the tests that led there. Assumes nothing.
use mathlib.Core.Path.{sym, ◌∙◌}
use Rattle.sets.proofs.Partition.{few_outside, part_test, part_overlap, part_wide_l, part_wide_f, part_many}
use Rattle.sets.proofs.is_partition.Goals as goal

pub returns-then-n-gt32 : goal.returns-then-n-gt32
returns-then-n-gt32 c = let a = c.args in let b = c.ranges in sym (part_many a.n a.f a.l a.r b.f.fits b.l.fits b.r.fits c.if-n-gt32.true)

pub returns-then-f-l-eq0 : goal.returns-then-f-l-eq0
returns-then-f-l-eq0 c = let a = c.args in part_test a.n a.f a.l a.r c.outside.result (sym c.within.ensures ∙ c.if-within.true) (sym c.within-then-within.ensures ∙ c.if-within-2.true) c.if-f-l-eq0.true (c.outside.ensures ∙ few_outside a.n a.f a.l c.if-n-gt32.false)

pub returns-else-f-l-eq0 : goal.returns-else-f-l-eq0
returns-else-f-l-eq0 c = let a = c.args in sym (part_overlap a.n a.f a.l a.r (sym c.within.ensures ∙ c.if-within.true) c.if-f-l-eq0.false)

pub returns-else-within-2 : goal.returns-else-within-2
returns-else-within-2 c = let a = c.args in sym (part_wide_l a.n a.f a.l a.r (sym c.within-then-within.ensures ∙ c.if-within-2.false))

pub returns-else-within : goal.returns-else-within
returns-else-within c = let a = c.args in sym (part_wide_f a.n a.f a.l a.r (sym c.within.ensures ∙ c.if-within.false))
