-- What `margins` prints on any file (document 02, P1). Assumes nothing.
use Rattle.std.specs.Prelude.{ℕ, zero, suc, List, [], ◌∷◌, ◌++◌, eqb, ℤ, pos, negsuc}
use Rattle.sets.specs.Tests.{pick}
use Rattle.sets.specs.Sets.{Terminal}
use Rattle.plan.specs.declared.Plan.{Plan}
use Rattle.closure.specs.Margin.{direct_ones, below_zero, at_zero, above_zero}
use Rattle.partition.specs.declared.Standing.{Standing}
use Rattle.partition.specs.declared.Standing.TheVariants.{Source, Direct, Margin, Absent}
use Rattle.partition.specs.Margins.{standing_of, margins_cause}
use Rattle.text.specs.Digits.{decimal}
use Rattle.frames.specs.Reading.{FileRead, margins_reading, file_read}
use Rattle.output.specs.OnFile.{refusal_line, text_on}

-- a minus sign before one below zero
unfoldable pub signed : ℤ → List ℕ
signed (pos v) = decimal v
signed (negsuc v) = 45 ∷ decimal (suc v)

-- the word direct
abbrev pub direct_word : List ℕ
direct_word = 100 ∷ 105 ∷ 114 ∷ 101 ∷ 99 ∷ 116 ∷ []

-- a terminal's line: its number, a space, and its margin or that word; the source has none
unfoldable pub standing_line : (b : Terminal) → Standing → List ℕ
standing_line b Source = []
standing_line b Direct = decimal b ++ (32 ∷ []) ++ direct_word ++ (10 ∷ [])
standing_line b (Margin m) = decimal b ++ (32 ∷ []) ++ signed m ++ (10 ∷ [])
standing_line b Absent = []

-- the lines of the terminals 0 to k - 1 in ascending order
unfoldable pub standing_lines : (k : ℕ) (standing : Terminal → Standing) → List ℕ
standing_lines zero standing = []
standing_lines (suc k) standing = standing_lines k standing ++ standing_line k (standing k)

-- the last line: how many are direct, below, at and above zero
unfoldable pub counts_line : (direct below level above : ℕ) → List ℕ
counts_line direct below level above =
    decimal direct ++ (32 ∷ []) ++ decimal below ++ (32 ∷ []) ++ decimal level ++ (32 ∷ []) ++ decimal above ++ (10 ∷ [])

-- the table of a plan
unfoldable pub margins_lines : Plan → List ℕ
margins_lines p = standing_lines p.n (standing_of p) ++ counts_line (direct_ones p) (below_zero p) (at_zero p) (above_zero p)

-- it, or the refusal of a record that is no plan with a bound f
unfoldable pub margins_answer : Plan → List ℕ
margins_answer p = pick (eqb (margins_cause p) 0) (margins_lines p) (refusal_line (margins_cause p) 0)

-- the table of the file's plan
unfoldable pub margins_on : (read : FileRead) → List ℕ
margins_on read = text_on read (margins_answer read.progress.plan)

unfoldable pub margins_text : (file : List ℕ) → List ℕ
margins_text file = margins_on (file_read (margins_reading file))
