-- What `sentence` prints on any file (document 02, P9). Assumes nothing.
use Rattle.std.specs.Prelude.{ℕ, List, [], ◌∷◌, ◌++◌, eqb}
use Rattle.sets.specs.Tests.{pick}
use Rattle.quorum.specs.Quorum.{most_terminals}
use Rattle.closure.specs.Answer.{Answer, answer_within}
use Rattle.text.specs.Phrases.{phrase}
use Rattle.wording.specs.Sentence as wording
use Rattle.frames.specs.Reading.{FileRead, plan_reading, file_read}
use Rattle.output.specs.OnFile.{refusal_line, text_on}

-- the sentence of a fail, and a line end
unfoldable pub fail_line : (n f r : ℕ) → List ℕ
fail_line n f r = wording.sentence n f r ++ (10 ∷ [])

unfoldable pub pass_line : List ℕ
pass_line = phrase "pass\n"

-- the verdict on n terminals in words, or the refusal of a record that is no plan
unfoldable pub sentence_answer : (n : ℕ) → Answer → List ℕ
sentence_answer n a = pick (eqb a.number 0) (pick (eqb a.failed 0) pass_line (fail_line n a.f a.r)) (refusal_line a.number 0)

unfoldable pub sentence_on : (read : FileRead) → List ℕ
sentence_on read = text_on read (sentence_answer read.progress.plan.n (answer_within most_terminals read.progress.plan))

-- the file is read as by `verdict`
unfoldable pub sentence_text : (file : List ℕ) → List ℕ
sentence_text file = sentence_on (file_read (plan_reading file))
