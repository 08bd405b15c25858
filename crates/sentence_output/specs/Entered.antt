-- What the code keeps of a file of n and a sentence, as what is told of it. Only private functions cite this. Assumes nothing.
use Rattle.std.specs.Prelude.{ℕ, zero, suc, Option, Some, None, Result, Ok, Err}
use Rattle.wording.specs.declared.Sets.{Sets}
use Rattle.wording.specs.declared.HeardError.{HeardError}
use Rattle.wording.specs.declared.HeardError.TheVariants as heard
use Rattle.wording.specs.Heard.{Told, refused}
use Rattle.sentence_output.specs.declared.entry.EntryError.{EntryError}
use Rattle.sentence_output.specs.declared.entry.EntryError.TheVariants.{WrongFile, WrongRange, OtherText}

abbrev pub number_of : EntryError → ℕ
number_of WrongFile = 1
number_of WrongRange = 4
number_of OtherText = 2

-- a refusal of the reader
abbrev pub entered_instead : HeardError → EntryError
entered_instead heard.WrongRange = WrongRange
entered_instead heard.OtherText = OtherText

abbrev pub entry : Result Sets EntryError → Told
entry (Ok s) = record { number = 0; f = s.f; l = s.l; r = s.r }
entry (Err e) = refused (number_of e)

-- the number of the first line, of which 0 is none
abbrev pub numbered : ℕ → Option ℕ
numbered zero = None
numbered (suc k) = Some (suc k)
