-- What `sentence` and `heard` print beside `verdict` (document 02, P9). Assumes nothing.
use Rattle.std.specs.Prelude.{ℕ, ◌≡◌, true, false, List, ◌++◌}
use Rattle.plan.specs.declared.Plan.{Plan}
use Rattle.closure.specs.Verdict.{Verdict, verdict}
use Rattle.wording.specs.Sentence.{sentence_cause}
use Rattle.frames.specs.Reading.{plan_reading}
use Rattle.verdict_output.specs.Verdict.{verdict_text}
use Rattle.sentence_output.specs.Sentence.{pass_line, fail_line, sentence_text}
use Rattle.sentence_output.specs.Heard.{number_line, heard_text}

abbrev pub plan_of : (file : List ℕ) → Plan
plan_of file = (plan_reading file).progress.plan

abbrev pub verdict_of : (file : List ℕ) → Verdict
verdict_of file = verdict (plan_of file)

-- of one file: a refused one gets verdict's line; a plan that passes gets the line pass; one that fails gets the sentence of its witness, which always
-- composes, and `heard`, given n and what was printed, prints what `verdict` prints on the file
pub record SentencePrinted (file : List ℕ) : Type 0 where
  pub refused : ((plan_reading file).number ≡ 0 → ⊥) → sentence_text file ≡ verdict_text file
  pub passes : (plan_reading file).number ≡ 0 → (verdict_of file).passed ≡ true → sentence_text file ≡ pass_line
  pub fails : (plan_reading file).number ≡ 0 → (verdict_of file).passed ≡ false
      → sentence_text file ≡ fail_line (plan_of file).n (verdict_of file).f (verdict_of file).r
  pub composes : (plan_reading file).number ≡ 0 → (verdict_of file).passed ≡ false
      → sentence_cause (plan_of file).n (verdict_of file).f (verdict_of file).l (verdict_of file).r ≡ 0
  pub heard : (plan_reading file).number ≡ 0 → (verdict_of file).passed ≡ false
      → heard_text (number_line (plan_of file).n ++ sentence_text file) ≡ verdict_text file
