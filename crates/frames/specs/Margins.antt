-- The reader of margins beside that of new plans (document 02, P1). Assumes nothing.
use Rattle.std.specs.Prelude.{ℕ, ◌≡◌, Bool, true, false, List}
use Rattle.quorum.specs.declared.BoundKind.{BoundKind}
use Rattle.quorum.specs.Quorum.{at_most}
use Rattle.frames.specs.Reading.{lists, refusal, plan_reading, margins_reading}
use Rattle.frames.specs.Begins.{file_where}

-- groups in place of f: a margin is told of a bound f only
abbrev pub groups_listed : (n : ℕ) → BoundKind → Bool
groups_listed n kind = lists kind

-- a file that begins with a head, accepted there, that has them
unfoldable pub file_grouped : (text : List ℕ) → Bool
file_grouped text = file_where groups_listed text

-- of one file: where it begins so, the reader of margins refuses it by 4 with line 1, whatever follows; elsewhere it and the reader of new plans read the
-- same, and refuse alike; and a plan that it reads has a bound f and lists no group
pub record Measuring (text : List ℕ) : Type 0 where
  pub grouped : file_grouped text ≡ true → margins_reading text ≡ refusal 4 1
  pub alike : file_grouped text ≡ false → margins_reading text ≡ plan_reading text
  pub bounded : (margins_reading text).number ≡ 0 → (f : ℕ) × ((margins_reading text).progress.plan.bound ≡ at_most f)
