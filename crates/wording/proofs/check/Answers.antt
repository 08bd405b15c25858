-- The tests in the order of the causes. Assumes nothing.
use mathlib.Core.Path.{sym, ◌∙◌}
use Rattle.wording.proofs.Causes.{range_small, range_large, range_right, cause_range, cause_sets, cause_right, composes_i, no_partition, nobody_reached, nobody_waits}
use Rattle.wording.proofs.check.Goals as goal
use Rattle.wording.proofs.check.Goals.{then-n-lt2-via-then-n-lt2, then-n-lt2-via-else-n-lt2+then-n-gt20}
use Rattle.wording.proofs.check.Goals.{then-l-eq0-via-then-l-eq0, then-l-eq0-via-else-l-eq0+then-r-eq0, then-l-eq0-via-else-l-eq0+else-r-eq0+then-not-is_partition}

pub returns-then-n-lt2 : goal.returns-then-n-lt2
returns-then-n-lt2 c = let a = c.args in
    elim c.then-n-lt2.branch [
      | then-n-lt2-via-then-n-lt2 w ↦ sym (cause_range a.n a.f a.l a.r (range_small a.n w.if-n-lt2.true))
      | then-n-lt2-via-else-n-lt2+then-n-gt20 w ↦ sym (cause_range a.n a.f a.l a.r (range_large a.n w.if-n-gt20.true))
    ]

pub returns-then-l-eq0 : goal.returns-then-l-eq0
returns-then-l-eq0 c = let a = c.args in
    let t = range_right a.n c.if-n-lt2.false c.if-n-gt20.false in
    elim c.then-l-eq0.branch [
      | then-l-eq0-via-then-l-eq0 w ↦ sym (cause_sets a.n a.f a.l a.r t (nobody_reached a.n a.f a.l a.r w.if-l-eq0.true))
      | then-l-eq0-via-else-l-eq0+then-r-eq0 w ↦ sym (cause_sets a.n a.f a.l a.r t (nobody_waits a.n a.f a.l a.r w.if-r-eq0.true))
      | then-l-eq0-via-else-l-eq0+else-r-eq0+then-not-is_partition w ↦
          sym (cause_sets a.n a.f a.l a.r t (no_partition a.n a.f a.l a.r (sym w.is_partition.ensures ∙ w.if-not-is_partition.true)))
    ]

pub returns : goal.returns
returns c = let a = c.args in
    sym (cause_right a.n a.f a.l a.r (range_right a.n c.if-n-lt2.false c.if-n-gt20.false) (composes_i a.n a.f a.l a.r (sym c.is_partition.ensures ∙ c.if-not-is_partition.false) c.if-l-eq0.false c.if-r-eq0.false))
