-- What `verdict`, `archive` and `quote` print on any file (document 01, "Hexadecimal lines"; document 02, P6 and P5). Assumes nothing.
use Rattle.std.specs.Prelude.{ℕ, List, [], ◌∷◌, ◌++◌, eqb}
use Rattle.sets.specs.Tests.{pick}
use Rattle.sets.specs.Sets.{Set}
use Rattle.quorum.specs.Quorum.{most_terminals}
use Rattle.plan.specs.Plan.{most_quoted}
use Rattle.closure.specs.Answer.{Answer, answer_within}
use Rattle.text.specs.Digits.{hex_byte, hex_triple}
use Rattle.frames.specs.Reading.{FileRead, plan_reading, archive_reading, quote_reading, file_read}
use Rattle.output.specs.OnFile.{refusal_line, text_on}

-- 81: 00 pass or 01 fail, then F, L, R
unfoldable pub verdict_line : (failed : ℕ) (f l r : Set) → List ℕ
verdict_line failed f l r = hex_byte 129 ++ hex_byte failed ++ hex_triple f ++ hex_triple l ++ hex_triple r ++ (10 ∷ [])

-- the verdict's line, or the refusal of a record that is no plan
unfoldable pub answer_text : Answer → List ℕ
answer_text a = pick (eqb a.number 0) (verdict_line a.failed a.f a.l a.r) (refusal_line a.number 0)

-- the verdict on the file's plan, for whoever may send at most so many terminals
unfoldable pub verdict_on : (most : ℕ) (read : FileRead) → List ℕ
verdict_on most read = text_on read (answer_text (answer_within most read.progress.plan))

unfoldable pub verdict_text : (file : List ℕ) → List ℕ
verdict_text file = verdict_on most_terminals (file_read (plan_reading file))

-- `archive` opens plans with a deaf terminal too
unfoldable pub archive_text : (file : List ℕ) → List ℕ
archive_text file = verdict_on most_terminals (file_read (archive_reading file))

-- `quote` takes twelve terminals
unfoldable pub quote_text : (file : List ℕ) → List ℕ
quote_text file = verdict_on most_quoted (file_read (quote_reading file))
