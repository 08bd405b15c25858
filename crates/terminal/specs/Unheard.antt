-- "Entries and notes of terminals it doesn't hear are neither looked at nor changed" (document 01, "One terminal's round"), nor are the places after a
-- note's count (document 02, P4), as a claim about the step's answer. Looked at is said as independence: two calls that differ only there are answered
-- alike. Assumes nothing.
use Rattle.std.specs.Prelude.{ℕ, ◌<◌, ◌≡◌, true, false, List, length, get_or}
use Rattle.sets.specs.Sets.{mem}
use Rattle.quorum.specs.declared.Bound.{Bound}
use Rattle.quorum.specs.Quorum.{most_terminals}
use Rattle.terminal.specs.declared.Record.{Record}
use Rattle.terminal.specs.Shown.{note_of, values_in, Whole}
use Rattle.terminal.specs.Answer.{cause_of, record_after}

-- two lists of one length that agree at the places of the heard terminals
pub record SameHeard (heard : ℕ) (a b : List ℕ) : Type 0 where
  pub long : length a ≡ length b
  pub entries : (j : ℕ) → mem j heard ≡ true → get_or a j 0 ≡ get_or b j 0

-- two records of one state and round whose notes of the heard terminals have the same edition, the same count and the same layouts
pub record SameRecord (heard : ℕ) (a b : Record) : Type 0 where
  pub state : a.state ≡ b.state
  pub round : a.round ≡ b.round
  pub editions : (j : ℕ) → j < most_terminals → mem j heard ≡ true → (note_of a.notes j).edition ≡ (note_of b.notes j).edition
  pub counts : (j : ℕ) → j < most_terminals → mem j heard ≡ true → (note_of a.notes j).count ≡ (note_of b.notes j).count
  pub values : (j : ℕ) → j < most_terminals → mem j heard ≡ true → values_in (note_of a.notes j) ≡ values_in (note_of b.notes j)

pub record UnheardIgnored (n source : ℕ) (bound : Bound) (own heard : ℕ) : Type 0 where
  pub number : (a b : Record) → Whole a.notes → Whole b.notes → SameRecord heard a b → (said other : List ℕ) → SameHeard heard said other
      → cause_of n source bound own heard a (length said) ≡ cause_of n source bound own heard b (length other)
  pub after : (a b : Record) → Whole a.notes → Whole b.notes → SameRecord heard a b → (said other : List ℕ) → SameHeard heard said other
      → SameRecord heard (record_after n source bound own heard a said) (record_after n source bound own heard b other)
  -- the note of a terminal that is not heard stays, whatever its count
  pub unchanged : (a : Record) (said : List ℕ) (j : ℕ) → j < most_terminals → mem j heard ≡ false
      → note_of (record_after n source bound own heard a said).notes j ≡ note_of a.notes j
  -- of a note whose edition stays only the count and the place after the layouts that it had change
  pub places : (a : Record) → Whole a.notes → (said : List ℕ) (j i : ℕ) → j < most_terminals
      → (note_of (record_after n source bound own heard a said).notes j).edition ≡ (note_of a.notes j).edition → (i ≡ (note_of a.notes j).count → ⊥)
      → get_or (note_of (record_after n source bound own heard a said).notes j).values i 0 ≡ get_or (note_of a.notes j).values i 0
  -- of one whose edition rises every place after the first is 0
  pub wiped : (a : Record) → Whole a.notes → (said : List ℕ) (j i : ℕ) → j < most_terminals
      → ((note_of (record_after n source bound own heard a said).notes j).edition ≡ (note_of a.notes j).edition → ⊥) → (i ≡ 0 → ⊥)
      → get_or (note_of (record_after n source bound own heard a said).notes j).values i 0 ≡ 0
