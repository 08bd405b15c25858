-- Sentences to be computed: document 02's own, one silent and one waiting, several, nobody silent, and one of the longest. Assumes nothing.
use Rattle.std.specs.Prelude.{ℕ, List, [], ◌∷◌}
use Rattle.text.specs.Phrases.{phrase}
use Rattle.wording.specs.Sentence.{sentence}

pub record Row : Type 0 where
  pub composed : List ℕ
  pub expected : List ℕ

unfoldable pub rows : List Row
rows =
    record { composed = sentence 7 0b1010 0b1100000; expected = phrase "If 1 and 3 stay silent, 5 and 6 never get the notice." }
    ∷ record { composed = sentence 4 0b10 0b1000; expected = phrase "If 1 stays silent, 3 never gets the notice." }
    ∷ record { composed = sentence 12 0b10011 0b111000000100; expected = phrase "If 0, 1 and 4 stay silent, 2, 9, 10 and 11 never get the notice." }
    ∷ record { composed = sentence 2 0 0b10; expected = phrase "Even if all work, 1 never gets the notice." }
    ∷ record {
      composed = sentence 20 0 0b11111111111111111110;
      expected = phrase "Even if all work, 1, 2, 3, 4, 5, 6, 7, 8, 9, 10, 11, 12, 13, 14, 15, 16, 17, 18 and 19 never get the notice.";
    }
    ∷ []
