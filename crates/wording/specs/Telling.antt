-- Composer and reader together (document 02, P9). Assumes nothing.
use Rattle.std.specs.Prelude.{ℕ, ◌≤◌, ◌≡◌, List, length}
use Rattle.sets.specs.Sets.{Set}
use Rattle.wording.specs.Sentence.{sentence, sentence_cause}
use Rattle.wording.specs.Heard.{heard_of}

-- no sentence is longer, so a list of so many bytes is never too short
abbrev pub longest_sentence : ℕ
longest_sentence = 108

-- for one n: what is composed is read back as the sets; a text is accepted only if it is composed of some sets, and then these are told; two different
-- witnesses never give one sentence; and how long it is
pub record Telling (n : ℕ) : Type 0 where
  pub back : (f l r : Set) → sentence_cause n f l r ≡ 0 → heard_of n (sentence n f r) ≡ record { number = 0; f = f; l = l; r = r }
  pub only : (text : List ℕ) → (heard_of n text).number ≡ 0
      → (sentence_cause n (heard_of n text).f (heard_of n text).l (heard_of n text).r ≡ 0) × (sentence n (heard_of n text).f (heard_of n text).r ≡ text)
  pub distinct : (f l r f' l' r' : Set) → sentence_cause n f l r ≡ 0 → sentence_cause n f' l' r' ≡ 0 → sentence n f r ≡ sentence n f' r'
      → (f ≡ f') × (l ≡ l') × (r ≡ r')
  pub short : (f l r : Set) → sentence_cause n f l r ≡ 0 → length (sentence n f r) ≤ longest_sentence
