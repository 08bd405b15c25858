-- A file's lines: each is ended by byte 10. Assumes nothing.
use Rattle.std.specs.Prelude.{ℕ, List, [], ◌∷◌, ◌++◌, eqb}
use Rattle.sets.specs.Tests.{pick}

-- a line that is ended, or the file's last bytes where they are not
pub data Line : Type 0 where
  ended : List ℕ → Line
  cut : List ℕ → Line

unfoldable pub last_line : List ℕ → List Line
last_line [] = []
last_line (b ∷ line) = cut (b ∷ line) ∷ []

-- the lines of the text, where `line` are the bytes of the current one so far
unfoldable pub lines_from : List ℕ → List ℕ → List Line
lines_from line [] = last_line line
lines_from line (b ∷ text) = pick (eqb b 10) (ended line ∷ lines_from [] text) (lines_from (line ++ (b ∷ [])) text)
