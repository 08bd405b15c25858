-- What a run is given beside its plan: a layout, a number of rounds, and the liars' words as a list (document 01, "The run"). Assumes nothing.
use Rattle.std.specs.Prelude.{ℕ, ◌+◌, ◌-◌, ◌*◌, Bool, not, eqb, leb}
use Rattle.sets.specs.Tests.{◌and◌}
use Rattle.sets.specs.Sets.{Terminal}
use Rattle.quorum.specs.Quorum.{most_terminals}

-- run and step stop at this round
abbrev pub most_rounds : ℕ
most_rounds = 40

-- the words of a run of so many rounds on so many terminals: 16,000
abbrev pub most_words : ℕ
most_words = most_rounds * (most_terminals * most_terminals)

-- a layout that is not 0, and at most 40 rounds
unfoldable pub start_sound : (layout rounds : ℕ) → Bool
start_sound layout rounds = not (eqb layout 0) and leb rounds most_rounds

-- the place of a word: round 1 first, then by sender, then by hearer
unfoldable pub place_of : (n round : ℕ) (sender hearer : Terminal) → ℕ
place_of n round sender hearer = (round - 1) * (n * n) + sender * n + hearer

-- on a shared channel (document 02, P11) there is one word a round and sender: at most 800, round 1 first, then by sender
abbrev pub most_shared_words : ℕ
most_shared_words = most_rounds * most_terminals

unfoldable pub shared_place_of : (n round : ℕ) (sender : Terminal) → ℕ
shared_place_of n round sender = (round - 1) * n + sender
