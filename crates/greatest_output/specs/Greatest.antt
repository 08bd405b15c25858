-- What `greatest` prints on any file (document 02, P13). Assumes nothing.
use Rattle.std.specs.Prelude.{ℕ, List, [], ◌∷◌, ◌++◌, eqb}
use Rattle.sets.specs.Tests.{pick}
use Rattle.tolerance.specs.Greatest.{drawing_of, Tolerance, none, up_to}
use Rattle.tolerance.specs.Answer.{Told, greatest_of}
use Rattle.text.specs.Digits.{decimal}
use Rattle.frames.specs.Reading.{FileRead, drawing_reading, file_read}
use Rattle.output.specs.OnFile.{refusal_line, text_on}

-- the word none
abbrev pub none_word : List ℕ
none_word = 110 ∷ 111 ∷ 110 ∷ 101 ∷ []

-- that word, or the bound in decimal
unfoldable pub tolerance_line : Tolerance → List ℕ
tolerance_line none = none_word ++ (10 ∷ [])
tolerance_line (up_to f) = decimal f ++ (10 ∷ [])

-- it, or the refusal of a record that is no drawing
unfoldable pub greatest_answer : Told → List ℕ
greatest_answer t = pick (eqb t.number 0) (tolerance_line t.passed) (refusal_line t.number 0)

-- the bound of the file's head is read, and not used
unfoldable pub greatest_on : (read : FileRead) → List ℕ
greatest_on read = text_on read (greatest_answer (greatest_of (drawing_of read.progress.plan)))

unfoldable pub greatest_text : (file : List ℕ) → List ℕ
greatest_text file = greatest_on (file_read (drawing_reading file))
