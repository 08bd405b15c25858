-- The reader of drawings beside that of the archive (document 02, P13). Assumes nothing.
use Rattle.std.specs.Prelude.{ℕ, ◌≡◌, true, false, List}
use Rattle.quorum.specs.Quorum.{at_most}
use Rattle.frames.specs.Reading.{refusal, archive_reading, drawing_reading}
use Rattle.frames.specs.Margins.{file_grouped}

-- of one file: where it begins with a head, accepted there, that has groups in place of f, the reader of drawings refuses it by 4 with line 1, whatever
-- follows; elsewhere it and the reader of the archive read the same, and refuse alike; and a plan that it reads has a bound f and lists no group
pub record Drawn (text : List ℕ) : Type 0 where
  pub grouped : file_grouped text ≡ true → drawing_reading text ≡ refusal 4 1
  pub alike : file_grouped text ≡ false → drawing_reading text ≡ archive_reading text
  pub bounded : (drawing_reading text).number ≡ 0 → (f : ℕ) × ((drawing_reading text).progress.plan.bound ≡ at_most f)
