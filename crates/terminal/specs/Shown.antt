-- The rule's record and the code's. The code's has for each neighbour an edition, forty places for its layouts and a count of those that are noted; the places
-- after them are not looked at. Assumes nothing.
use Rattle.std.specs.Prelude.{ℕ, ◌+◌, ◌<◌, ◌≡◌, Bool, true, List, [], map, eqb, length, get_or, take, replicate}
use Rattle.std.proofs.lemmas.List.Edits.{sets}
use Rattle.sets.specs.Tests.{pick}
use Rattle.sets.specs.Tables.{table}
use Rattle.sets.specs.Sets.{Terminal}
use Rattle.quorum.specs.Quorum.{most_terminals}
use Rattle.quorum.specs.Notice.{Notice}
use Rattle.quorum.specs.Words.{most_rounds}
use Rattle.terminal.specs.declared.State.TheVariants.{Waiting}
use Rattle.terminal.specs.declared.Note.{Note}
use Rattle.terminal.specs.declared.Record.{Record}
use Rattle.terminal.specs.Rule.{Values, Spoken, View, start, spoken_by, says_in}

-- ---- what the code's record says

-- the note of terminal j
abbrev pub note_of : List Note → Terminal → Note
note_of notes j = get_or notes j (record { edition = 0; count = 0; values = [] })

-- the layouts that a note holds: its first places, as many as it counts
unfoldable pub values_in : Note → Values
values_in note = take note.count note.values

unfoldable pub spoken_in : Note → Spoken
spoken_in note = record { edition = note.edition; layouts = values_in note }

-- notes as the code has them: twenty of forty places each
pub record Whole (notes : List Note) : Type 0 where
  pub twenty : length notes ≡ most_terminals
  pub forty : (j : ℕ) → j < most_terminals → length (note_of notes j).values ≡ most_rounds

-- the code's record as the rule has it, whatever stands in its notes
unfoldable pub view_of : Record → View
view_of r = record { state = r.state; round = r.round; notes = map spoken_in r.notes }

-- ---- how the code's record shows the rule's

-- what a neighbour has said written over its note: the layouts stand at the first places and are counted; the places after them stay as they were where the
-- edition does, and are 0 where it is another. More than forty find no place, which no accepted step comes to (a record before round 40 has fewer of everybody
-- it hears)
unfoldable pub written_over : Note → Spoken → Note
written_over note spoken = record {
  edition = spoken.edition;
  count = length spoken.layouts;
  values = sets (pick (eqb note.edition spoken.edition) note.values (replicate most_rounds 0)) 0 spoken.layouts;
}

-- nothing noted, and 0 at each place
abbrev pub no_note : Note
no_note = record { edition = 0; count = 0; values = replicate most_rounds 0 }

-- the notes of those who are heard written over the code's notes; those of the others stay as they were
unfoldable pub notes_over : (heard : Terminal → Bool) (before : List Note) (notes : List Spoken) → List Note
notes_over heard before notes = table most_terminals (λ j. pick (heard j) (written_over (note_of before j) (spoken_by notes j)) (note_of before j))

-- the rule's record shown in the place of the code's
unfoldable pub shown_over : (heard : Terminal → Bool) (before : Record) → View → Record
shown_over heard before r = record { state = r.state; round = r.round; notes = notes_over heard before.notes r.notes }

-- the same from nothing: each neighbour's edition, count and layouts, and 0 at the places after them
unfoldable pub shown : View → Record
shown r = shown_over (λ j. true) (record { state = Waiting; round = 0; notes = replicate most_terminals no_note }) r

-- waiting, round 0, nothing heard
abbrev pub nothing_heard : Record
nothing_heard = shown start

-- ---- what it says

-- what the record after a round has its terminal say in the next one
unfoldable pub says : Record → Notice
says r = says_in (r.round + 1) r.state
