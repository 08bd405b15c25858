-- What is printed of deaf terminals (document 02, P6). Assumes nothing.
use Rattle.std.specs.Prelude.{ℕ, ◌≡◌, ◌⊎◌, List}
use Rattle.plan.specs.declared.Plan.{Plan}
use Rattle.plan.specs.Deaf.{deaf_set}
use Rattle.closure.specs.Closure.{reached, cut_off}
use Rattle.frames.specs.Reading.{archive_reading}
use Rattle.output.specs.OnFile.{refusal_line}
use Rattle.verdict_output.specs.Verdict.{verdict_line, verdict_text, archive_text}

-- the plan that the archive reads
abbrev pub on_file : (file : List ℕ) → Plan
on_file file = (archive_reading file).progress.plan

-- on any file `verdict` prints what `archive` prints, or ff0f0000; on a plan with a deaf terminal `archive` prints a fail with F empty
pub record DeafPrinted (file : List ℕ) : Type 0 where
  pub alike : (verdict_text file ≡ archive_text file) ⊎ (verdict_text file ≡ refusal_line 15 0)
  pub fail : (archive_reading file).number ≡ 0 → (deaf_set (on_file file) ≡ 0 → ⊥)
      → archive_text file ≡ verdict_line 1 0 (reached (on_file file) 0) (cut_off (on_file file) 0)
