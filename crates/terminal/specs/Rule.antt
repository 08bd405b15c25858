-- One terminal's round (document 01, "One terminal's round", with document 02, P4 and P8), for any number of rounds: the bound of 40 belongs to the code's
-- refusals, and so do its forty places for a neighbour's layouts (specs/Shown.antt). The rule is given n, the source, who may be bad together, the terminal's
-- own number, and the set that it hears; what was said is a function of the sender, notices of the office or silence. Assumes nothing.
use Rattle.std.specs.Prelude.{ℕ, zero, suc, ◌+◌, min, max, Bool, false, not, List, [], ◌∷◌, ◌++◌, map, eqb, ltb, leb, get_or, replicate}
use Rattle.sets.specs.Tests.{◌and◌, ◌or◌, pick}
use Rattle.sets.specs.Sets.{Terminal, Set, mem}
use Rattle.quorum.specs.declared.Bound.{Bound}
use Rattle.quorum.specs.Quorum.{most_terminals, enough}
use Rattle.quorum.specs.Notice.{Edition, Layout, Notice, notice_of, edition_of, layout_of, silent}
use Rattle.terminal.specs.declared.State.{State}
use Rattle.terminal.specs.declared.State.TheVariants.{Waiting, Taken}

abbrev pub Round : Type 0
Round = ℕ

-- what a neighbour has said in an edition: its different layouts, in the order in which they were first said. A record that is handed in may hold a layout
-- twice, or 0: neither counts for more
abbrev pub Values : Type 0
Values = List Layout

-- what a neighbour has said so far: the highest edition that it has said, and what it has said in that one. A record that is handed in may have edition 0,
-- which counts for nothing
pub record Spoken : Type 0 where
  pub edition : Edition
  pub layouts : Values

abbrev pub nothing_said : Spoken
nothing_said = record { edition = 0; layouts = [] }

-- document 01's record, as the rule has it: place j of the notes is what terminal j has said, however much that is
pub record View : Type 0 where
  pub state : State
  pub round : Round
  pub notes : List Spoken

-- ---- the start: every record is at round 0 with nothing heard, the source's too

abbrev pub start : View
start = record { state = Waiting; round = 0; notes = replicate most_terminals nothing_said }

abbrev pub source_start : Notice → View
source_start notice = record { state = Taken 0 notice; round = 0; notes = replicate most_terminals nothing_said }

-- ---- notes: for each neighbour it hears, its highest edition and every different layout that it has said in it

-- what is noted of terminal j
unfoldable pub spoken_by : (notes : List Spoken) (j : Terminal) → Spoken
spoken_by notes j = get_or notes j nothing_said

-- the layouts that a neighbour has said in an edition, of which only its highest counts
unfoldable pub in_edition : Edition → Spoken → Values
in_edition edition spoken = pick (eqb spoken.edition edition) spoken.layouts []

-- v is one of the layouts
unfoldable pub among : (v : Layout) → Values → Bool
among v [] = false
among v (w ∷ values) = eqb w v or among v values

-- a word that a heard neighbour says is new: it is no silence, not of a lower edition, and its layout is not among those of its edition
unfoldable pub is_new : (hears : Bool) (spoken : Spoken) (said : Notice) → Bool
is_new hears spoken said =
    hears and not (silent said) and leb spoken.edition (edition_of said) and not (among (layout_of said) (in_edition (edition_of said) spoken))

-- what a neighbour has said, with a word that is new: its layout comes last, and a higher edition wipes the lower one
unfoldable pub with_new : (spoken : Spoken) (said : Notice) → Spoken
with_new spoken said = record { edition = edition_of said; layouts = in_edition (edition_of said) spoken ++ (layout_of said ∷ []) }

-- and after a round
unfoldable pub with_word : (hears : Bool) (spoken : Spoken) (said : Notice) → Spoken
with_word hears spoken said = pick (is_new hears spoken said) (with_new spoken said) spoken

unfoldable pub noted : (n : ℕ) (hears : Terminal → Bool) (said : Terminal → Notice) (notes : List Spoken) → List Spoken
noted zero hears said notes = notes
noted (suc n) hears said [] = []
noted (suc n) hears said (spoken ∷ notes) =
    with_word (hears 0) spoken (said 0) ∷ noted n (λ j. hears (suc j)) (λ j. said (suc j)) notes

-- who has said what to it: it has the notice x from terminal j
unfoldable pub holds : View → Notice → Terminal → Bool
holds r x j = not (silent x) and among (layout_of x) (in_edition (edition_of x) (spoken_by r.notes j))

-- ---- the choice of a layout within one edition, 0 for none: the old rules

-- what terminal j has said in the edition
unfoldable pub values_of : (notes : List Values) (j : Terminal) → Values
values_of notes j = get_or notes j []

-- v is a layout, and terminal j has said it
unfoldable pub has_noted : (notes : List Values) (v : Layout) (j : Terminal) → Bool
has_noted notes v j = not (eqb v 0) and among v (values_of notes j)

-- v is noted from enough different neighbours: more than f, or some who fit in no group (document 02, P10). For a plan with f this is document 01's rule as
-- it was: the case `Most f` of `enough` counts them
unfoldable pub certified : (n : ℕ) (bound : Bound) (heard : Set) (notes : List Values) (v : Layout) → Bool
certified n bound heard notes v = enough n bound (λ j. mem j heard and has_noted notes v j)

-- the first of some values, 0 where there is none
unfoldable pub first_of : Values → Layout
first_of values = get_or values 0 0

-- the lesser of two values, where 0 is none; the least that the terminals below n have, and the least that some values have
unfoldable pub lesser : Layout → Layout → Layout
lesser zero b = b
lesser (suc a) zero = suc a
lesser (suc a) (suc b) = min (suc a) (suc b)

unfoldable pub least : (n : ℕ) (value : Terminal → Layout) → Layout
least zero value = 0
least (suc n) value = lesser (value 0) (least n (λ j. value (suc j)))

unfoldable pub least_of : (value : Layout → Layout) → Values → Layout
least_of value [] = 0
least_of value (v ∷ values) = lesser (value v) (least_of value values)

-- a value, if it is certified
unfoldable pub candidate : (n : ℕ) (bound : Bound) (heard : Set) (notes : List Values) (v : Layout) → Layout
candidate n bound heard notes v = pick (certified n bound heard notes v) v 0

-- the least certified value of one neighbour, if it is heard; a certified value is noted from some neighbour, so these are all of them
unfoldable pub least_from : (n : ℕ) (bound : Bound) (heard : Set) (notes : List Values) (j : Terminal) → Layout
least_from n bound heard notes j = pick (mem j heard) (least_of (candidate n bound heard notes) (values_of notes j)) 0

-- the first value that the source said, if it hears the source and has one, where 0 is none; otherwise the smallest that is certified
unfoldable pub choice : (n : ℕ) (source : Terminal) (bound : Bound) (heard : Set) (notes : List Values) → Layout
choice n source bound heard notes =
    pick (mem source heard and not (eqb (first_of (values_of notes source)) 0)) (first_of (values_of notes source)) (least n (least_from n bound heard notes))

-- ---- the choice of a notice, 0 for none: the highest edition in which something qualifies (document 02, P8)

-- the layout that is chosen in an edition
unfoldable pub layout_in : (n : ℕ) (source : Terminal) (bound : Bound) (heard : Set) (notes : List Spoken) (edition : Edition) → Layout
layout_in n source bound heard notes edition = choice n source bound heard (map (in_edition edition) notes)

-- the edition that terminal j has said, if it is heard, the edition is above the one that is held, and something qualifies in it; otherwise 0. Where something
-- qualifies it was said by a heard neighbour, so these are all of them
unfoldable pub qualifying : (n : ℕ) (source : Terminal) (bound : Bound) (heard : Set) (notes : List Spoken) (held : Edition) (j : Terminal) → Edition
qualifying n source bound heard notes held j =
    pick
    (mem j heard and ltb held (spoken_by notes j).edition and not (eqb (layout_in n source bound heard notes (spoken_by notes j).edition) 0))
    (spoken_by notes j).edition 0

-- the highest that the terminals below n have
unfoldable pub highest : (n : ℕ) (edition : Terminal → Edition) → Edition
highest zero edition = 0
highest (suc n) edition = max (edition 0) (highest n (λ j. edition (suc j)))

unfoldable pub newest : (n : ℕ) (source : Terminal) (bound : Bound) (heard : Set) (notes : List Spoken) (held : Edition) → Edition
newest n source bound heard notes held = highest n (qualifying n source bound heard notes held)

unfoldable pub chosen : (n : ℕ) (source : Terminal) (bound : Bound) (heard : Set) (notes : List Spoken) (held : Edition) → Notice
chosen n source bound heard notes held =
    pick (eqb (newest n source bound heard notes held) 0) 0
    (notice_of (newest n source bound heard notes held) (layout_in n source bound heard notes (newest n source bound heard notes held)))

-- ---- the step

-- the edition that a terminal holds, 0 while it waits
unfoldable pub held_by : State → Edition
held_by Waiting = 0
held_by (Taken at notice) = edition_of notice

-- the state of a terminal that chose a notice in a round: where there is none it stays as it was
unfoldable pub taking : Round → State → Notice → State
taking round state zero = state
taking round state (suc x) = Taken round (suc x)

-- every terminal notes, and all but the source choose above what they hold; a take keeps the raised round number. The source takes only what its office
-- issues
unfoldable pub step : (n : ℕ) (source : Terminal) (bound : Bound) (own : Terminal) (heard : Set) (said : Terminal → Notice) → View → View
step n source bound own heard said r = record {
  state =
      pick (eqb own source) r.state
      (taking (r.round + 1) r.state (chosen n source bound heard (noted n (λ j. mem j heard) said r.notes) (held_by r.state)));
  round = r.round + 1;
  notes = noted n (λ j. mem j heard) said r.notes;
}

-- the office has its terminal take a notice, in the round that its record shows
unfoldable pub issue : Notice → View → View
issue notice r = record { state = Taken r.round notice; round = r.round; notes = r.notes }

-- ---- what it says

-- what a good terminal says in a round: its notice in the round after it took, and never again
unfoldable pub says_in : Round → State → Notice
says_in round Waiting = 0
says_in round (Taken at notice) = pick (eqb (at + 1) round) notice 0
