-- The causes for which a file is refused, as the code has them, by their numbers, and what a reader answers. Assumes nothing.
use Rattle.std.specs.Prelude.{ℕ, Result, Ok, Err}
use Rattle.faults.specs.declared.FaultSetError.{FaultSetError}
use Rattle.faults.specs.declared.FaultSetError.TheVariants as fault
use Rattle.frames.specs.declared.Progress.{Progress}
use Rattle.frames.specs.declared.Refusal.{Refusal}
use Rattle.frames.specs.declared.Archived.{Archived}
use Rattle.frames.specs.declared.cause.Cause.{Cause}
use Rattle.frames.specs.declared.cause.Cause.TheVariants.{Foreign, Unknown, OutOfPlace, WrongRange, WrongLink, LinkTwice, WrongMember, OverBound, WrongNotice, WrongWord, WordTwice, WrongRoom, TooMany, Deaf, WrongEdition, WrongGroups}
use Rattle.frames.specs.Reading.{nothing_read, FileRead, ArchiveRead}

abbrev pub number : Cause → ℕ
number Foreign = 1
number Unknown = 2
number OutOfPlace = 3
number WrongRange = 4
number WrongLink = 5
number LinkTwice = 6
number WrongMember = 7
number OverBound = 8
number WrongNotice = 9
number WrongWord = 10
number WordTwice = 11
number WrongRoom = 12
number TooMany = 14
number Deaf = 15
number WrongEdition = 16
number WrongGroups = 17

-- the library's causes against a bad set
abbrev pub of_set : FaultSetError → Cause
of_set fault.WrongRange = WrongRange
of_set fault.WrongLink = WrongLink
of_set fault.WrongGroups = WrongGroups
of_set fault.WrongMember = WrongMember
of_set fault.OverBound = OverBound

-- the number of what refuses, 0 where nothing does
abbrev pub refused_by : {A : Type 0} → Result A Cause → ℕ
refused_by (Ok a) = 0
refused_by (Err cause) = number cause

-- what a caller gets of a file by what a reader answers: what was read, or the number, the line and nothing else
abbrev pub answer : Result Progress Refusal → FileRead
answer (Ok p) = record { number = 0; line = 0; progress = p }
answer (Err e) = record { number = number e.cause; line = e.line; progress = nothing_read }

-- the same of the archive's reader; of a refused file there are no deaf terminals
abbrev pub archive_answer : Result Archived Refusal → ArchiveRead
archive_answer (Ok a) = record { file = answer (Ok a.progress); deaf = a.deaf }
archive_answer (Err e) = record { file = answer (Err e); deaf = 0 }
