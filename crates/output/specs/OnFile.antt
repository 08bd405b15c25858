-- What the programs' texts share: the line that refuses a file, and what is answered of a text on a file. Assumes nothing.
use Rattle.std.specs.Prelude.{ℕ, List, [], ◌∷◌, ◌++◌, eqb, length}
use Rattle.sets.specs.Tests.{pick}
use Rattle.text.specs.declared.Written as text
use Rattle.text.specs.Digits.{hex_byte, hex_pair}
use Rattle.text.specs.Texts.{written_of}
use Rattle.frames.specs.Reading.{FileRead}
use Rattle.output.specs.declared.Written.{Written}

-- ff: the number of a refusal, and its line
unfoldable pub refusal_line : (number line : ℕ) → List ℕ
refusal_line number line = hex_byte 255 ++ hex_byte number ++ hex_pair line ++ (10 ∷ [])

-- the text on a file: what is said where it is accepted, or why it is refused
unfoldable pub text_on : (read : FileRead) (said : List ℕ) → List ℕ
text_on read said = pick (eqb read.number 0) said (refusal_line read.number read.line)

-- a text on a file put into a list with so much room: the answer of any text that is put, and the file's line
abbrev pub on_line : (line : ℕ) → text.Written → Written
on_line line w = record { number = w.number; line = line; len = w.len }

unfoldable pub answer_on : (read : FileRead) (text : List ℕ) (room : ℕ) → Written
answer_on read text room = on_line read.line (written_of read.number (length text) room)
