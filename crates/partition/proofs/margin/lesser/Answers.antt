-- One count beside another. Assumes nothing.
use mathlib.Core.Path.{◌∙◌}
use native.Mathlib.Omega.{arith}
use Rattle.partition.proofs.Lows.{ones_row, lesser_now, lesser_not_sought, lesser_no_less}
use Rattle.partition.proofs.margin.lesser.Goals.{else-sought-via-then-sought+else-now-before, else-sought-via-else-sought}
use Rattle.partition.proofs.margin.lesser.Goals as goal

pub returns-then-now-before : goal.returns-then-now-before
returns-then-now-before c = let a = c.args in let e = ones_row a.row a.l c.ranges.row.fits in e ∙ lesser_now a.row a.l a.before a.sought c.if-sought.true (let h = c.if-now-before.true in omega arith)

pub returns : goal.returns
returns c =
    let a = c.args in
    let e = ones_row a.row a.l c.ranges.row.fits in
    elim c.else-sought.branch [
      | else-sought-via-then-sought+else-now-before w ↦ lesser_no_less a.row a.l a.before a.sought (let h = w.if-now-before.false in omega arith)
      | else-sought-via-else-sought w ↦ lesser_not_sought a.row a.l a.before a.sought w.if-sought.false
    ]
