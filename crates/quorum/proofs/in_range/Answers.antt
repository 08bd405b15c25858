-- The tests of the rule, in its order. Assumes nothing.
use borrow.Author.Tests.{lt-ltb, le-ltb, le-leb, lt-leb}
use Rattle.sets.specs.Tests.{◌and◌}
use Rattle.quorum.specs.Quorum.{in_range}
use Rattle.quorum.proofs.in_range.Goals.{else-n-ge2-via-then-n-ge2+then-n-le20+else-source-n, else-n-ge2-via-then-n-ge2+else-n-le20, else-n-ge2-via-else-n-ge2}
use Rattle.quorum.proofs.in_range.Goals as goal

pub returns-then-source-n : goal.returns-then-source-n
unfolding in_range ◌and◌
returns-then-source-n c =
    simp (le-leb _ _ c.if-n-ge2.true, le-leb _ _ c.if-n-le20.true, lt-ltb _ _ c.if-source-n.true, c.kind_in_range.ensures)

pub returns : goal.returns
unfolding in_range ◌and◌
returns c =
    elim c.else-n-ge2.branch [
      | else-n-ge2-via-then-n-ge2+then-n-le20+else-source-n w ↦
          simp (le-leb _ _ w.if-n-ge2.true, le-leb _ _ w.if-n-le20.true, le-ltb _ _ w.if-source-n.false)
      | else-n-ge2-via-then-n-ge2+else-n-le20 w ↦ simp (le-leb _ _ w.if-n-ge2.true, lt-leb _ _ w.if-n-le20.false)
      | else-n-ge2-via-else-n-ge2 w ↦ simp (lt-leb _ _ w.if-n-ge2.false)
    ]
