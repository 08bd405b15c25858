-- What the run answers for all arguments: the documents' number for each cause of refusal, and the records. Assumes nothing.
use Rattle.std.specs.Prelude.{ℕ, ◌+◌, ◌*◌, ◌-◌, ◌≤◌, ◌<◌, ◌≡◌, Bool, true, false, not, List, [], ◌∷◌, map, eqb, length, get_or, replicate, Result, Ok, Err}
use Rattle.sets.specs.Tests.{◌and◌, pick}
use Rattle.sets.specs.Causes.{◌gives◌, first_cause, given}
use Rattle.sets.specs.Sets.{Terminal, Set, mem}
use Rattle.quorum.specs.Quorum.{most_terminals}
use Rattle.terminal.specs.declared.State.{State}
use Rattle.terminal.specs.declared.State.TheVariants.{Waiting, Taken}
use Rattle.terminal.specs.declared.Record.{Record}
use Rattle.terminal.specs.Rule.{held_by}
use Rattle.terminal.specs.Answer.{cause_of}
use Rattle.terminal.specs.Shown.{shown, nothing_heard}
use Rattle.quorum.specs.Notice.{Notice, edition_of, layout_of, rising}
use Rattle.quorum.specs.Words.{start_sound}
use Rattle.plan.specs.declared.Plan.{Plan}
use Rattle.plan.specs.Plan.{heard_by}
use Rattle.faults.specs.Check.{fault_cause_of}
use Rattle.closure.specs.Verdict.{verdict}
use Rattle.propagation.specs.Run.{Silent, office_of, last_issued, Quiet, sites, site, script_of}
use Rattle.sets.specs.Tables.{table}
use Rattle.propagation.specs.Demand3.{Good, IssuedByThen}
use Rattle.simulation.specs.declared.RunError.{RunError}
use Rattle.simulation.specs.declared.RunError.TheVariants.{WrongRange, WrongLink, WrongGroups, WrongMember, OverBound, WrongStart, WrongEdition, WrongLength}

-- the documents' number of each outcome, 0 where nothing is refused
abbrev pub number_of : Result Unit RunError → ℕ
number_of (Ok done) = 0
number_of (Err WrongRange) = 4
number_of (Err WrongLink) = 5
number_of (Err WrongGroups) = 17
number_of (Err WrongMember) = 7
number_of (Err OverBound) = 8
number_of (Err WrongStart) = 9
number_of (Err WrongEdition) = 16
number_of (Err WrongLength) = 12

-- the office's first notice has an edition, and those of the later ones rise above it (document 02, P8); a zero in either half of a later one issues nothing
unfoldable pub office_sound : (first : Notice) (later : List Notice) → Bool
office_sound first later = not (eqb (edition_of first) 0) and rising (edition_of first) later

-- the lists that are lent are as long as they should be: a word for each round, sender and hearer, a later notice for each round, a record for each terminal
unfoldable pub lists_fit : Plan → (rounds words issues places : ℕ) → Bool
lists_fit p rounds words issues places = eqb words (rounds * (p.n * p.n)) and eqb issues rounds and eqb places p.n

-- the causes of what is given beside plan and fault set, in their order; 0 where none applies. Of the later notices every one is looked at, also in a list
-- of the wrong length
unfoldable pub given_cause : Plan → (first : Notice) (later : List Notice) (rounds words places : ℕ) → ℕ
given_cause p first later rounds words places =
    first_cause (
    not (start_sound (layout_of first) rounds) gives 9 ∷ not (office_sound first later) gives 16 ∷ not (lists_fit p rounds words (length later) places) gives 12 ∷ []
    )

-- those of the plan and the fault set come first
unfoldable pub run_cause : Plan → (faulty : Set) (first : Notice) (later : List Notice) (rounds words places : ℕ) → ℕ
run_cause p faulty first later rounds words places = first_cause (given (fault_cause_of p faulty) ∷ given (given_cause p first later rounds words places) ∷ [])

-- the turns that the run is played in: one for each terminal in round 0 and in each round after it; none where the call is refused
unfoldable pub turns_of : Plan → (faulty : Set) (first : Notice) (later : List Notice) (rounds words places : ℕ) → ℕ
turns_of p faulty first later rounds words places = pick (eqb (run_cause p faulty first later rounds words places) 0) ((rounds + 1) * p.n) 0

-- the records afterwards: they show those of the run by the rules, or where the call is refused they are those that were there
unfoldable pub records_after : Plan → (faulty : Set) (first : Notice) (later : List Notice) (rounds : ℕ) (words : List Notice) (before : List Record) → List Record
records_after p faulty first later rounds words before =
    pick (eqb (run_cause p faulty first later rounds (length words) (length before)) 0)
    (map shown (sites p faulty (office_of first later) (script_of p.n words) rounds)) before

-- the same where the records are an array of twenty: terminal b's record after the last round; waiting, round 0, nothing heard for b at or above n, and
-- for every b where the call is refused
unfoldable pub array_after : Plan → (faulty : Set) (first : Notice) (later : List Notice) (rounds : ℕ) (words : List Notice) → List Record
array_after p faulty first later rounds words =
    pick (eqb (run_cause p faulty first later rounds (length words) p.n) 0)
    (table most_terminals (λ b. shown (site p faulty (office_of first later) (script_of p.n words) rounds b))) (table most_terminals (λ b. nothing_heard))

-- terminal b's state in a list of records
abbrev pub state_of : (records : List Record) (b : Terminal) → State
state_of records b = (get_or records b nothing_heard).state

-- ---- demand 3 of the run itself, for every accepted call: a good terminal is one of the plan outside the fault set

pub record Demand3Holds (p : Plan) (faulty first : ℕ) (later : List ℕ) (rounds : ℕ) (words : List ℕ) (records : List Record) : Type 0 where
  -- no good terminal holds a notice that the office hasn't issued by then
  pub issued : (b : ℕ) → Good p faulty b → (at x : ℕ) → state_of records b ≡ Taken at x → (at ≤ rounds) × IssuedByThen p (office_of first later) b at x
  -- in a passed plan the last notice, where nothing is issued for the n - 1 rounds after it, is held by every good terminal
  pub last : (verdict p).passed ≡ true → (q : ℕ) → q + (p.n - 1) ≤ rounds → Quiet (office_of first later) q rounds → (b : ℕ) → Good p faulty b
      → (at : ℕ) × (state_of records b ≡ Taken at (last_issued (office_of first later) q))
  -- no good terminal held a higher edition after fewer rounds
  pub editions : (k b : ℕ) → k ≤ rounds → Good p faulty b
      → held_by (site p faulty (office_of first later) (script_of p.n words) k b).state ≤ held_by (state_of records b)
  -- where nothing is issued after the start: no good terminal holds another notice than the first
  pub safe : Quiet (office_of first later) 0 rounds → (b : ℕ) → Good p faulty b → (at x : ℕ) → state_of records b ≡ Taken at x → x ≡ first
  -- and in a passed plan none waits after n - 1 rounds or more
  pub passes : (verdict p).passed ≡ true → p.n - 1 ≤ rounds → Quiet (office_of first later) 0 rounds → (b : ℕ) → Good p faulty b → state_of records b ≡ Waiting → ⊥
  -- F is the verdict's, and all its words are 0: every member of its R waits, whatever the office issues
  pub silent : (verdict p).passed ≡ false → faulty ≡ (verdict p).f → Silent p faulty rounds (script_of p.n words) → (b : ℕ) → b < p.n
      → mem b (verdict p).r ≡ true → state_of records b ≡ Waiting
  -- and no step was refused: that of round k + 1 is called on the record after round k, with n words
  pub steps : (k b : ℕ) → k < rounds → Good p faulty b
      → cause_of p.n p.source p.bound b (heard_by p b) (shown (site p faulty (office_of first later) (script_of p.n words) k b)) p.n ≡ 0

-- that a failed plan can be defeated shows in the run itself: R is not empty, the silent run of n - 1 rounds with the verdict's F is an accepted call,
-- and it leaves each member of R waiting
pub record Defeated (p : Plan) (first : ℕ) (later words : List ℕ) (before : List Record) : Type 0 where
  pub somebody : (verdict p).r ≡ 0 → ⊥
  pub accepted : run_cause p (verdict p).f first later (p.n - 1) (length words) (length before) ≡ 0
  pub waits : (b : ℕ) → b < p.n → mem b (verdict p).r ≡ true
      → state_of (records_after p (verdict p).f first later (p.n - 1) words before) b ≡ Waiting

-- the words of silence, for a number of rounds
abbrev pub silent_words : Plan → ℕ → List ℕ
silent_words p rounds = replicate (rounds * (p.n * p.n)) 0

-- and an office that issues nothing after its first notice
abbrev pub nothing_later : ℕ → List ℕ
nothing_later rounds = replicate rounds 0
