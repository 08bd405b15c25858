-- What is answered where the sets have no sentence. Assumes nothing.
use mathlib.Core.Path.{◌≡◌, refl, ap}
use mathlib.Core.List.{[]}
use native.Mathlib.Omega.{arith}
use Rattle.std.specs.Prelude.{Result, Ok, Err}
use Rattle.std.specs.Result.{IsErr, IsErrAnd}
use Rattle.text.specs.declared.Text.{Text}
use Rattle.wording.specs.declared.Sets.{Sets}
use Rattle.wording.specs.declared.HeardError.{HeardError}
use Rattle.wording.specs.declared.SentenceError.{SentenceError}
use Rattle.wording.specs.declared.SentenceError.TheVariants.{WrongRange, NoPartition}
use Rattle.wording.specs.Answers.{number_of, words_of, heard_instead}
use Rattle.wording.specs.Heard.{told}

pub some_number : (e : SentenceError) → number_of e ≡ 0 → ⊥
some_number WrongRange h = omega arith
some_number NoPartition h = omega arith

pub no_words : (r : Result Text SentenceError) → IsErr r → words_of r ≡ []
no_words (Ok t) h = cc
no_words (Err e) h = refl

pub told_instead : (e : SentenceError) (r : Result Sets HeardError) → IsErrAnd r (λ h. h ≡ heard_instead e) → told r ≡ told (Err (heard_instead e))
told_instead e (Ok s) h = absurd h
told_instead e (Err x) h = ap (λ (y : HeardError). told (Err y)) h
