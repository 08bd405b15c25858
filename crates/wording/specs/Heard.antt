-- The sets that a text speaks of (document 02, P9): those of which it is the sentence. Any other text is refused. Assumes nothing.
use Rattle.std.specs.Prelude.{ℕ, zero, suc, ◌*◌, ◌/◌, ◌%◌, ◌^◌, Bool, List, eqb, Result, Ok, Err}
use Rattle.sets.specs.Tests.{◌and◌, pick}
use Rattle.sets.specs.Sets.{Set, outside}
use Rattle.text.specs.Phrases.{same}
use Rattle.wording.specs.declared.Sets.{Sets}
use Rattle.wording.specs.declared.HeardError.{HeardError}
use Rattle.wording.specs.declared.HeardError.TheVariants.{WrongRange, OtherText}
use Rattle.wording.specs.Sentence.{terminals_in_range, sentence, sentence_cause}

-- the number of a refusal, 0 where nothing is refused, and F, L, R: zeros beside a refusal
pub record Told : Type 0 where
  pub number : ℕ
  pub f : Set
  pub l : Set
  pub r : Set

abbrev pub refused : (number : ℕ) → Told
refused number = record { number = number; f = 0; l = 0; r = 0 }

abbrev pub told : Result Sets HeardError → Told
told (Ok s) = record { number = 0; f = s.f; l = s.l; r = s.r }
told (Err WrongRange) = refused 4
told (Err OtherText) = refused 2

-- the text is the sentence of F, R and everyone else, of whom there is one
unfoldable pub speaks_of : (n : ℕ) (text : List ℕ) (f r : Set) → Bool
speaks_of n text f r = eqb (sentence_cause n f (outside n f r) r) 0 and same (sentence n f r) text

-- F and R as the two digits of one number
abbrev pub silent_in : (n pair : ℕ) → Set
silent_in n pair = pair / 2 ^ n

abbrev pub waiting_in : (n pair : ℕ) → Set
waiting_in n pair = pair % 2 ^ n

-- of so many pairs of sets, those that the text speaks of
unfoldable pub spoken_below : (n : ℕ) (text : List ℕ) (pairs : ℕ) → Told
spoken_below n text zero = refused 2
spoken_below n text (suc pair) =
    pick (speaks_of n text (silent_in n pair) (waiting_in n pair))
    (record { number = 0; f = silent_in n pair; l = outside n (silent_in n pair) (waiting_in n pair); r = waiting_in n pair })
    (spoken_below n text pair)

-- of all pairs of sets of n terminals; for one n no two have the same sentence (Telling)
unfoldable pub heard_of : (n : ℕ) (text : List ℕ) → Told
heard_of n text = pick (terminals_in_range n) (spoken_below n text (2 ^ n * 2 ^ n)) (refused 4)
