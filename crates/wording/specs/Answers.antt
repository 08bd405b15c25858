-- What the composer answers: the number of a refusal or the sentence. Assumes nothing.
use Rattle.std.specs.Prelude.{ℕ, List, [], Result, Ok, Err}
use Rattle.text.specs.declared.Text.{Text}
use Rattle.text.specs.Texts.{held}
use Rattle.wording.specs.declared.SentenceError.{SentenceError}
use Rattle.wording.specs.declared.SentenceError.TheVariants.{WrongRange, NoPartition}
use Rattle.wording.specs.declared.HeardError.{HeardError}
use Rattle.wording.specs.declared.HeardError.TheVariants as heard

abbrev pub number_of : SentenceError → ℕ
number_of WrongRange = 4
number_of NoPartition = 2

-- 0 where nothing is refused
abbrev pub cause_of : {A : Type 0} → Result A SentenceError → ℕ
cause_of (Ok a) = 0
cause_of (Err e) = number_of e

-- the bytes of the sentence, none beside a refusal
abbrev pub words_of : Result Text SentenceError → List ℕ
words_of (Ok t) = held t
words_of (Err e) = []

-- the reader's refusal where the sets that it heard have no sentence
abbrev pub heard_instead : SentenceError → HeardError
heard_instead WrongRange = heard.WrongRange
heard_instead NoPartition = heard.OtherText
