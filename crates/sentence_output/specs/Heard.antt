-- What `heard` prints on any file: the verdict's line of a sentence that was heard on the phone (document 02, P9). The file is two lines, n in decimal and
-- the sentence. Assumes nothing.
use Rattle.std.specs.Prelude.{ℕ, zero, suc, ◌-◌, Bool, List, [], ◌∷◌, ◌++◌, eqb, ltb, length, get_or, take, drop}
use Rattle.sets.specs.Tests.{◌and◌, ◌or◌, pick}
use Rattle.text.specs.Digits.{decimal}
use Rattle.text.specs.Phrases.{begins}
use Rattle.wording.specs.Sentence.{terminals_in_range}
use Rattle.wording.specs.Heard.{Told, refused, heard_of}
use Rattle.frames.specs.Reading.{most_bytes}
use Rattle.output.specs.OnFile.{refusal_line}
use Rattle.verdict_output.specs.Verdict.{verdict_line}

-- ---- the first line

unfoldable pub number_line : (n : ℕ) → List ℕ
number_line n = decimal n ++ (10 ∷ [])

-- the number of terminals, below some number, with whose line the file begins; 0 for none
unfoldable pub terminals_below : (numbers : ℕ) (file : List ℕ) → ℕ
terminals_below zero file = 0
terminals_below (suc n) file = pick (terminals_in_range n and begins (number_line n) file) n (terminals_below n file)

unfoldable pub terminals_in : (file : List ℕ) → ℕ
terminals_in file = terminals_below 21 file

-- ---- the second line

-- the last byte ends the line, and all before it is the sentence
unfoldable pub line_ends : (bytes : List ℕ) → Bool
line_ends bytes = eqb (get_or bytes (length bytes - 1) 0) 10

unfoldable pub heard_on : (n : ℕ) (bytes : List ℕ) → Told
heard_on n bytes = pick (line_ends bytes) (heard_of n (take (length bytes - 1) bytes)) (refused 2)

-- ---- the file

-- 1 for an empty file and one that is too long; 4 for any other first line; 2 for any other text after it
unfoldable pub heard_in : (file : List ℕ) → Told
heard_in file =
    pick (eqb (length file) 0 or ltb most_bytes (length file)) (refused 1)
    (pick (eqb (terminals_in file) 0) (refused 4) (heard_on (terminals_in file) (drop (length (number_line (terminals_in file))) file)))

-- the line that a refusal names: 0 for the whole file
unfoldable pub line_of : (number : ℕ) → ℕ
line_of number = pick (eqb number 4) 1 (pick (eqb number 2) 2 0)

unfoldable pub heard_answer : Told → List ℕ
heard_answer t = pick (eqb t.number 0) (verdict_line 1 t.f t.l t.r) (refusal_line t.number (line_of t.number))

unfoldable pub heard_text : (file : List ℕ) → List ℕ
heard_text file = heard_answer (heard_in file)
