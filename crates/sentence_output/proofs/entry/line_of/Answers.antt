-- By the number. Assumes nothing.
use mathlib.Core.Path.{refl}
use Rattle.sets.specs.Tests.{pick}
use Rattle.sentence_output.specs.Heard.{line_of}
use Rattle.sentence_output.proofs.entry.line_of.Goals as goal

pub returns-in-WrongFile : goal.returns-in-WrongFile
unfolding line_of pick
returns-in-WrongFile c = rw c.in-WrongFile.is refl

pub returns-in-WrongRange : goal.returns-in-WrongRange
unfolding line_of pick
returns-in-WrongRange c = rw c.in-WrongRange.is refl

pub returns-in-OtherText : goal.returns-in-OtherText
unfolding line_of pick
returns-in-OtherText c = rw c.in-OtherText.is refl
