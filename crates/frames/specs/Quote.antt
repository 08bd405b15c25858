-- The quoting desk's reader beside the others (document 02, P5). Assumes nothing.
use Rattle.std.specs.Prelude.{ℕ, ◌≡◌, Bool, true, false, List, ltb}
use Rattle.quorum.specs.declared.BoundKind.{BoundKind}
use Rattle.plan.specs.Plan.{most_quoted}
use Rattle.frames.specs.Reading.{refusal, plan_reading, archive_reading, quote_reading, margins_reading, drawing_reading, run_reading}
use Rattle.frames.specs.Begins.{file_where}

-- more terminals than the quoting desk takes
abbrev pub quoted_above : (n : ℕ) → BoundKind → Bool
quoted_above n kind = ltb most_quoted n

-- a file that begins with a head, accepted there, that has them
unfoldable pub file_above : (text : List ℕ) → Bool
file_above text = file_where quoted_above text

-- of one file: where it begins so, the quoting desk's reader refuses it by 14 with line 1; elsewhere it and the reader of new plans read the same, and
-- refuse alike; and no other reader ever answers 14
pub record Quoting (text : List ℕ) : Type 0 where
  pub above : file_above text ≡ true → quote_reading text ≡ refusal 14 1
  pub alike : file_above text ≡ false → quote_reading text ≡ plan_reading text
  pub never : (plan_reading text).number ≡ 14 → ⊥
  pub never_archived : (archive_reading text).number ≡ 14 → ⊥
  pub never_measured : (margins_reading text).number ≡ 14 → ⊥
  pub never_drawn : (drawing_reading text).number ≡ 14 → ⊥
  pub never_run : (run_reading text).number ≡ 14 → ⊥
