-- The length decides, then the lines do. Assumes nothing.
use mathlib.Core.Path.{sym, ◌∙◌}
use native.Mathlib.Omega.{arith}
use lib.ListN.{length}
use borrow.Author.Tests.{eqb-true}
use Rattle.frames.proofs.FileLaws.{empty_file, long_file}
use Rattle.frames.proofs.read.Goals.{then-is_empty-via-then-is_empty, then-is_empty-via-else-is_empty+then-text-gt-MOST_BYTES}
use Rattle.frames.proofs.read.Goals as goal

pub returns-then-is_empty : goal.returns-then-is_empty
returns-then-is_empty c =
    elim c.then-is_empty.branch [
      | then-is_empty-via-then-is_empty w ↦
          let none = eqb-true (length c.args.text.now) 0 (sym c.is_empty.ensures ∙ w.if-is_empty.true) in
          empty_file _ _ (omega arith)
      | then-is_empty-via-else-is_empty+then-text-gt-MOST_BYTES w ↦ long_file _ _ w.if-text-gt-MOST_BYTES.true
    ]
