-- The file's reading, and the deaf set of its plan. Assumes nothing.
use Prim.Native.Nat.{◌≤◌}
use mathlib.Core.Path.{sym, subst}
use Rattle.frames.specs.Reading.{FileRead, archive_reading}
use Rattle.frames.proofs.Accepted.{reading_twenty}
use Rattle.frames.proofs.FileLaws.{err_of, archived, archived_none}
use Rattle.frames.proofs.read_archive.Goals as goal

pub returns-in_err-progress : goal.returns-in_err-progress
unfolding archive_reading
returns-in_err-progress c = rw (err_of _ _ c.from_residual.ensures.1) (archived_none _ (archive_reading c.args.text.now) c.in_err-progress.ensures)

pub deaf_set-requires : goal.deaf_set-requires
deaf_set-requires c = subst (λ (f : FileRead). f.progress.plan.n ≤ 20) (sym c.in_ok-progress.ensures) (reading_twenty _ _)

pub returns : goal.returns
unfolding archive_reading
returns c = archived _ _ (archive_reading c.args.text.now) c.in_ok-progress.ensures c.deaf_set.ensures
