-- The plan record (document 01, "The site", with document 02, P5 and P10): n terminals, the source, who may be bad together, and for each terminal the set
-- of those that it hears. Assumes nothing.
use Rattle.std.specs.Prelude.{ℕ, Bool, not, [], ◌∷◌, Result, Ok, Err, eqb, ltb, get_or}
use Rattle.sets.specs.Tests.{◌and◌, pick}
use Rattle.sets.specs.Causes.{◌gives◌, first_cause}
use Rattle.sets.specs.Sets.{Terminal, Set, mem, all}
use Rattle.quorum.specs.Quorum.{most_terminals, in_range, others, groups_sound}
use Rattle.plan.specs.declared.Plan.{Plan}
use Rattle.plan.specs.declared.Unsound.{Unsound}
use Rattle.plan.specs.declared.Unsound.TheVariants.{WrongRange, WrongLink, WrongGroups}

-- the set that terminal b hears; b hears a (there is a link from a to b)
unfoldable pub heard_by : Plan → (b : Terminal) → Set
heard_by p b = get_or p.rows b 0

unfoldable pub hears : Plan → (b a : Terminal) → Bool
hears p b a = mem a (heard_by p b)

-- the documents' number of each answer, 0 where nothing is refused
abbrev pub number_of : Result Unit Unsound → ℕ
number_of (Ok _) = 0
number_of (Err WrongRange) = 4
number_of (Err WrongLink) = 5
number_of (Err WrongGroups) = 17

-- of a terminal below n: no bit at or above n, and not its own; of a row at or above n: no bit
unfoldable pub row_sound : (n : ℕ) (b : Terminal) (row : Set) → Bool
row_sound n b row = pick (ltb b n) (others n b row) (eqb row 0)

unfoldable pub links_sound : Plan → Bool
links_sound p = all most_terminals (λ b. row_sound p.n b (heard_by p b))

-- the quoting desk may send so many terminals (document 02, P5); the planner as many as a plan may have
abbrev pub most_quoted : ℕ
most_quoted = 12

-- the causes, in their order, for whoever may send at most so many terminals; 0 where none applies
unfoldable pub cause_within : (most : ℕ) → Plan → ℕ
cause_within most p =
    first_cause (
    not (in_range p.n p.source p.bound.kind) gives 4
    ∷ ltb most p.n gives 14
    ∷ not (links_sound p) gives 5
    ∷ not (groups_sound p.n p.source p.bound) gives 17
    ∷ []
    )

unfoldable pub cause_of : Plan → ℕ
cause_of p = cause_within most_terminals p

-- the range is sound, and there are more terminals than may be sent
unfoldable pub too_many : (most : ℕ) → Plan → Bool
too_many most p = in_range p.n p.source p.bound.kind and ltb most p.n
