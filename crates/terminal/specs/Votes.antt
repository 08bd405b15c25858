-- What the functions that look for a certified value promise each other: the code's notes one by one, and sets of neighbours in the place of counts; and what
-- those that look for a cause of refusal do. No caller of the step sees this: proofs/Search.antt shows that what the former find is the rule's choice, and
-- proofs/Refused.antt that the latter find the step's cause. Assumes nothing.
use Rattle.std.specs.Prelude.{ℕ, ◌≤◌, ◌<◌, ◌≡◌, true, not, List, [], ◌∷◌, eqb, ltb, get_or}
use Rattle.std.specs.Int.Bits.{bit_or}
use Rattle.sets.specs.Tests.{◌and◌, pick}
use Rattle.sets.specs.Causes.{◌gives◌, first_cause}
use Rattle.sets.specs.Sets.{Terminal, Set, mem, mask}
use Rattle.quorum.specs.declared.Bound.{Bound}
use Rattle.quorum.specs.Quorum.{in_range, others, groups_sound, enough}
use Rattle.quorum.specs.Notice.{Edition, Layout}
use Rattle.quorum.specs.Words.{most_rounds}
use Rattle.terminal.specs.declared.Note.{Note}
use Rattle.terminal.specs.declared.Record.{Record}
use Rattle.terminal.specs.Rule.{among}
use Rattle.terminal.specs.Shown.{note_of, values_in}
use Rattle.terminal.specs.Answer.{record_sound}

-- the notes of a set of neighbours have no more values than there are places
abbrev pub HavePlaces : Set → List Note → Type 0
HavePlaces neighbours notes = (j : Terminal) → mem j neighbours ≡ true → (note_of notes j).count ≤ most_rounds

-- and there is a place for one more
abbrev pub HaveRoom : Set → List Note → Type 0
HaveRoom neighbours notes = (j : Terminal) → mem j neighbours ≡ true → (note_of notes j).count < most_rounds

-- those of a set who have said v
unfoldable pub voters_in : (n : ℕ) (notes : List Note) (neighbours : Set) (v : Layout) → Set
voters_in n notes neighbours v = mask n (λ j. mem j neighbours and among v (values_in (note_of notes j)))

-- those of a set who have said one value, and those who have said more
unfoldable pub single_in : (n : ℕ) (notes : List Note) (neighbours : Set) → Set
single_in n notes neighbours = mask n (λ j. eqb (note_of notes j).count 1 and mem j neighbours)

unfoldable pub fickle_in : (n : ℕ) (notes : List Note) (neighbours : Set) → Set
fickle_in n notes neighbours = mask n (λ j. ltb 1 (note_of notes j).count and mem j neighbours)

-- the value at the first place of terminal j's note
unfoldable pub first_place : List Note → Terminal → Layout
first_place notes j = get_or (note_of notes j).values 0 0

-- those of a set whose first place has v
unfoldable pub same_in : (n : ℕ) (firsts : List Layout) (neighbours : Set) (v : Layout) → Set
same_in n firsts neighbours v = mask n (λ j. eqb (get_or firsts j 0) v and mem j neighbours)

-- a value, if enough have said it
unfoldable pub if_enough : (bound : Bound) (who : Set) (v : Layout) → Layout
if_enough bound who v = pick (enough 32 bound (λ j. mem j who)) v 0

-- what terminal j's first place leads to, where it is of those who have said one value: that value, if enough have said it
unfoldable pub from_first : (n : ℕ) (bound : Bound) (notes : List Note) (firsts : List Layout) (single fickle : Set) (j : Terminal) → Layout
from_first n bound notes firsts single fickle j =
    pick (mem j single)
    (if_enough bound (bit_or (same_in n firsts single (get_or firsts j 0)) (voters_in n notes fickle (get_or firsts j 0))) (get_or firsts j 0))
    0

-- those of a set whose note has this edition, and those whose note has a higher one
unfoldable pub speakers_in : (n : ℕ) (notes : List Note) (heard : Set) (edition : Edition) → Set
speakers_in n notes heard edition = mask n (λ j. eqb (note_of notes j).edition edition and mem j heard)

unfoldable pub above_in : (n : ℕ) (notes : List Note) (heard : Set) (held : Edition) → Set
above_in n notes heard held = mask n (λ j. ltb held (note_of notes j).edition and mem j heard)

-- ---- the causes of refusal, in two parts: a shared channel has one more between them

unfoldable pub site_cause_of : (n : ℕ) (source : Terminal) (bound : Bound) (own : Terminal) (heard : Set) → ℕ
site_cause_of n source bound own heard =
    first_cause (
    not (in_range n source bound.kind) gives 4
    ∷ not (others n own heard) gives 5
    ∷ not (groups_sound n source bound) gives 17
    ∷ []
    )

unfoldable pub record_cause_of : (n : ℕ) (source own : Terminal) (heard : Set) → Record → (words : ℕ) → ℕ
record_cause_of n source own heard r words =
    first_cause (
    not (record_sound n source own heard r) gives 13
    ∷ not (eqb words n) gives 12
    ∷ []
    )
