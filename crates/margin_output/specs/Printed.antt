-- What `margins` prints beside what `verdict` says (document 02, P1). Assumes nothing.
use Rattle.std.specs.Prelude.{ℕ, ◌≡◌, true, false, List}
use Rattle.closure.specs.Margin.{MarginsTell}
use Rattle.frames.specs.Reading.{margins_reading, plan_reading, file_read}
use Rattle.frames.specs.Margins.{file_grouped}
use Rattle.output.specs.OnFile.{refusal_line}
use Rattle.margin_output.specs.Margins.{margins_lines, margins_on, margins_text}

-- of one file: an accepted plan gets its table, which tells who can be kept waiting, and whether the plan passes; a plan with groups is refused by 4 on line 1;
-- any other file is read as `verdict` reads it, and refused alike
pub record MarginsPrinted (file : List ℕ) : Type 0 where
  pub table : (margins_reading file).number ≡ 0 → margins_text file ≡ margins_lines (margins_reading file).progress.plan
  pub tells : (margins_reading file).number ≡ 0 → MarginsTell (margins_reading file).progress.plan
  pub grouped : file_grouped file ≡ true → margins_text file ≡ refusal_line 4 1
  pub alike : file_grouped file ≡ false → margins_text file ≡ margins_on (file_read (plan_reading file))
