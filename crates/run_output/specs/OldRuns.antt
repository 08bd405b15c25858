-- Runs in the old frames (document 02, P8): they count as edition 1, nothing is issued after the start, and what is printed has a line of 13 bytes for each
-- terminal, as before; on a shared channel (P11) the lines have 13 bytes too. That each byte is the one that was printed before is a recorded comparison (tests/old). Assumes nothing.
use Rattle.std.specs.Prelude.{ℕ, ◌*◌, ◌≡◌, List, [], length}
use Rattle.quorum.specs.Notice.{notice_of, layout_of}
use Rattle.propagation.specs.Run.{one_notice, site}
use Rattle.lines.specs.declared.Form.TheVariants.{Old}
use Rattle.frames.specs.Reading.{run_kinds, run_reading}
use Rattle.frames.specs.Lines.{lines_from}
use Rattle.frames.specs.Tells.{NoChannel}
use Rattle.run_output.specs.Site.{site_lines, script_read, run_text}

pub record OldRuns (file : List ℕ) : Type 0 where
  -- without a default layout (P11) the lines are those of an office that issues one notice, in edition 1
  pub one_edition : (run_reading file).number ≡ 0 → (run_reading file).progress.form ≡ Old → NoChannel run_kinds (lines_from [] file)
      → run_text file
      ≡ site_lines Old (run_reading file).progress.plan.n (run_reading file).progress.faulty
      (λ b.
      (site (run_reading file).progress.plan (run_reading file).progress.faulty (one_notice (notice_of 1 (layout_of (run_reading file).progress.notice)))
      (script_read (run_reading file).progress (run_reading file).said.words) (run_reading file).progress.rounds b).state)
  pub thirteen : (run_reading file).number ≡ 0 → (run_reading file).progress.form ≡ Old → length (run_text file) ≡ 13 * (run_reading file).progress.plan.n
