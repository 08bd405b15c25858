-- What `greatest` prints beside what `archive` and `verdict` say (document 02, P13). Assumes nothing.
use Rattle.std.specs.Prelude.{ℕ, ◌≡◌, true, false, List, ltb}
use Rattle.quorum.specs.Quorum.{at_most}
use Rattle.plan.specs.declared.Plan.{Plan}
use Rattle.plan.specs.Deaf.{deaf_set}
use Rattle.closure.specs.Verdict.{verdict}
use Rattle.tolerance.specs.Greatest.{drawing_of, none, greatest, height}
use Rattle.tolerance.specs.Links.{LinksCost}
use Rattle.frames.specs.Reading.{drawing_reading, archive_reading, file_read}
use Rattle.frames.specs.Margins.{file_grouped}
use Rattle.output.specs.OnFile.{refusal_line}
use Rattle.greatest_output.specs.Greatest.{tolerance_line, greatest_on, greatest_text}

-- the plan that is read
abbrev pub plan_of : (file : List ℕ) → Plan
plan_of file = (drawing_reading file).progress.plan

-- of one file: an accepted plan gets the greatest bound of its drawing, of which holds what one link can cost, and by which its verdict passes or fails with
-- whatever bound the head has; one with a deaf terminal gets none; a plan with groups is refused by 4 on line 1; any other file is read as `archive` reads
-- it, and refused alike
pub record GreatestPrinted (file : List ℕ) : Type 0 where
  pub printed : (drawing_reading file).number ≡ 0 → greatest_text file ≡ tolerance_line (greatest (drawing_of (plan_of file)))
  pub costs : (drawing_reading file).number ≡ 0 → LinksCost (drawing_of (plan_of file))
  pub decides : (drawing_reading file).number ≡ 0
      → (f : ℕ) × ((plan_of file).bound ≡ at_most f) × ((verdict (plan_of file)).passed ≡ ltb f (height (greatest (drawing_of (plan_of file)))))
  pub deaf : (drawing_reading file).number ≡ 0 → (deaf_set (plan_of file) ≡ 0 → ⊥) → greatest_text file ≡ tolerance_line none
  pub grouped : file_grouped file ≡ true → greatest_text file ≡ refusal_line 4 1
  pub alike : file_grouped file ≡ false → greatest_text file ≡ greatest_on (file_read (archive_reading file))
