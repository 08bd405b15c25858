-- One pass over a file's bytes, for the private functions of the readers: what the file is told to be from the byte at i on. Assumes nothing.
use Rattle.std.specs.Prelude.{ℕ, ◌+◌, ◌-◌, ◌≤◌, Result, Ok, Err, List, ◌≡◌, length, take, drop}
use Rattle.quorum.specs.Quorum.{most_terminals}
use Rattle.quorum.specs.Words.{most_rounds, most_words}
use Rattle.frames.specs.declared.Progress.{Progress}
use Rattle.frames.specs.declared.Reader.{Reader}
use Rattle.frames.specs.declared.Cursor.{Cursor}
use Rattle.frames.specs.declared.Refusal.{Refusal}
use Rattle.frames.specs.Lines.{lines_from}
use Rattle.frames.specs.Reading.{Lists, Reading, refusal, told, reading}
use Rattle.frames.specs.Causes.{number}

-- the bytes so far of the line that the pass is in
abbrev pub current : (text : List ℕ) (from i : ℕ) → List ℕ
current text from i = take (i - from) (drop from text)

abbrev pub ahead : Reader → (text : List ℕ) → Progress → Lists → (line from i : ℕ) → Reading
ahead reader text p said line from i = told reader p said line (lines_from (current text from i) (drop i text))

-- the pass stands before the byte at i: told from here, the file is what it is from the start
pub record Going (reader : Reader) (text : List ℕ) (said : Lists) (at : Cursor) (i : ℕ) : Type 0 where
  pub begun : at.from ≤ i
  pub within : i ≤ length text
  pub counted : at.line ≤ at.from + 1
  pub twenty : at.progress.plan.n ≤ most_terminals
  pub forty : at.progress.rounds ≤ most_rounds
  pub places : length said.words ≡ most_words
  pub entries : length said.later ≡ most_rounds
  pub same : ahead reader text at.progress said at.line at.from i ≡ reading reader text

-- what a file is by what a reader answers, with what was said
abbrev pub reading_of : Result Progress Refusal → Lists → Reading
reading_of (Ok p) said = record { number = 0; line = 0; progress = p; said = said }
reading_of (Err e) said = refusal (number e.cause) e.line
