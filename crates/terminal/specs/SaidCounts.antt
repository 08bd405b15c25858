-- Whatever a neighbour said before, once it has said a notice it counts for that notice until it says a higher edition (document 02, P4: the wet connector that
-- spoiled a first word; P8: of each neighbour only its highest edition counts), as a claim about the step's answer on the code's record. Assumes nothing.
use Rattle.std.specs.Prelude.{ℕ, ◌≤◌, ◌<◌, ◌≡◌, true, false, List, [], ◌∷◌, length, get_or}
use Rattle.sets.specs.Sets.{mem}
use Rattle.quorum.specs.declared.Bound.{Bound}
use Rattle.quorum.specs.Notice.{edition_of, layout_of, silent}
use Rattle.terminal.specs.declared.Record.{Record}
use Rattle.terminal.specs.Rule.{Spoken, spoken_by, holds, first_of}
use Rattle.terminal.specs.Shown.{Whole, view_of}
use Rattle.terminal.specs.Answer.{cause_of, record_after}

-- what a record says of terminal j
abbrev pub said_to : Record → ℕ → Spoken
said_to r j = spoken_by (view_of r).notes j

pub record SaidCounts (n source : ℕ) (bound : Bound) (own heard : ℕ) : Type 0 where
  -- a terminal has what a heard neighbour says in its highest edition so far, or in a higher one, whatever its note held before
  pub counts : (r : Record) → Whole r.notes → (said : List ℕ) (j : ℕ) → cause_of n source bound own heard r (length said) ≡ 0
      → mem j heard ≡ true → silent (get_or said j 0) ≡ false → (said_to r j).edition ≤ edition_of (get_or said j 0)
      → holds (view_of (record_after n source bound own heard r said)) (get_or said j 0) j ≡ true
  -- a higher edition wipes the lower one
  pub wipes : (r : Record) → Whole r.notes → (said : List ℕ) (j : ℕ) → cause_of n source bound own heard r (length said) ≡ 0
      → mem j heard ≡ true → silent (get_or said j 0) ≡ false → (said_to r j).edition < edition_of (get_or said j 0)
      → said_to (record_after n source bound own heard r said) j
      ≡ record { edition = edition_of (get_or said j 0); layouts = layout_of (get_or said j 0) ∷ [] }
  -- a lower one is not looked at
  pub lower : (r : Record) → Whole r.notes → (said : List ℕ) (j : ℕ) → mem j heard ≡ true → edition_of (get_or said j 0) < (said_to r j).edition
      → said_to (record_after n source bound own heard r said) j ≡ said_to r j
  -- no later word but one of a higher edition takes a notice away
  pub stays : (r : Record) → Whole r.notes → (said : List ℕ) (x j : ℕ) → mem j heard ≡ true
      → (silent (get_or said j 0) ≡ false → edition_of (get_or said j 0) ≤ edition_of x)
      → holds (view_of r) x j ≡ true → holds (view_of (record_after n source bound own heard r said)) x j ≡ true
  -- and while the edition stays the first layout that a neighbour said in it stays its first
  pub first : (r : Record) → Whole r.notes → (said : List ℕ) (j : ℕ) → mem j heard ≡ true → 0 < length (said_to r j).layouts
      → (said_to (record_after n source bound own heard r said) j).edition ≡ (said_to r j).edition
      → first_of (said_to (record_after n source bound own heard r said) j).layouts ≡ first_of (said_to r j).layouts
