-- The run by the rules (document 01, "The run", with document 02, P8), for any number of rounds. A script is a function of round, sender and hearer: what
-- the terminals of the fault set say, 0 for silence. Assumes nothing.
use Rattle.std.specs.Prelude.{ℕ, zero, suc, ◌-◌, ◌≤◌, ◌<◌, ◌≡◌, ◌⊎◌, true, false, not, List, eqb, get_or}
use Rattle.sets.specs.Tests.{◌and◌, pick}
use Rattle.sets.specs.Tables.{table}
use Rattle.sets.specs.Sets.{Terminal, Set, mem}
use Rattle.quorum.specs.Notice.{Notice, edition_of, silent}
use Rattle.quorum.specs.Words.{place_of}
use Rattle.terminal.specs.Rule.{View, Round, start, source_start, step, issue, says_in}
use Rattle.plan.specs.declared.Plan.{Plan}
use Rattle.plan.specs.Plan.{heard_by, hears}

abbrev pub Script : Type 0
Script = (round : Round) (sender hearer : Terminal) → Notice

-- the script that a lent list of words stands for: round 1 first, then by sender, then by hearer; 0 past its end
unfoldable pub script_of : (n : ℕ) (words : List Notice) → Script
script_of n words round sender hearer = get_or words (place_of n round sender hearer) 0

abbrev pub silence : Script
silence round sender hearer = 0

-- what the office issues: its first notice at the start, and later ones, in each round a notice or silence
pub record Office : Type 0 where
  pub first : Notice
  pub later : Round → Notice

-- the office of a lent list of later notices: entry r - 1 is what it issues in round r; silence past its end
unfoldable pub office_of : (first : Notice) (later : List Notice) → Office
office_of first later = record { first = first; later = λ (round : Round). get_or later (round - 1) 0 }

-- the office that issues nothing after its first notice
abbrev pub one_notice : Notice → Office
one_notice first = record { first = first; later = λ (round : Round). 0 }

-- the source starts as taken in round 0 with the first notice, all others start waiting
unfoldable pub start_record : Plan → (first : Notice) (b : Terminal) → View
start_record p first b = pick (eqb b p.source) (source_start first) start

-- what terminal b hears from terminal j in a round, where `before` are the records after the round before: the script's word if j is in the fault set
unfoldable pub heard_from : Plan → (faulty : Set) (script : Script) (round : Round) (before : List View) (b j : Terminal) → Notice
heard_from p faulty script round before b j =
    pick (hears p b j) (pick (mem j faulty) (script round j b) (says_in round (get_or before j start).state)) 0

-- one terminal's step in the plan
abbrev pub step_in : Plan → (b : Terminal) (said : Terminal → Notice) → View → View
step_in p b said r = step p.n p.source p.bound b (heard_by p b) said r

-- what the office issues in a round is written into the source's record after that round's step, the one write beside the steps
unfoldable pub issued : Plan → Office → (round : Round) (b : Terminal) → View → View
issued p office round b r = pick (eqb b p.source and not (silent (office.later round))) (issue (office.later round) r) r

-- a terminal's record after a round; one of the fault set stays waiting, round 0, nothing heard
unfoldable pub record_in : Plan → (faulty : Set) (office : Office) (script : Script) (round : Round) (before : List View) (b : Terminal) → View
record_in p faulty office script round before b =
    pick (mem b faulty) start (issued p office round b (step_in p b (heard_from p faulty script round before b) (get_or before b start)))

-- one round of the whole site
unfoldable pub played : Plan → (faulty : Set) (office : Office) (script : Script) (round : Round) (before : List View) → List View
played p faulty office script round before = table p.n (record_in p faulty office script round before)

-- the site after a number of rounds
unfoldable pub sites : Plan → (faulty : Set) (office : Office) (script : Script) (rounds : Round) → List View
sites p faulty office script zero = table p.n (start_record p office.first)
sites p faulty office script (suc r) = played p faulty office script (suc r) (sites p faulty office script r)

-- terminal b's record after r rounds
unfoldable pub site : Plan → (faulty : Set) (office : Office) (script : Script) (rounds : Round) (b : Terminal) → View
site p faulty office script r b = get_or (sites p faulty office script r) b start

-- ---- what the office has issued

-- the last notice that it has issued by a round
unfoldable pub last_issued : Office → Round → Notice
last_issued office zero = office.first
last_issued office (suc r) = pick (silent (office.later (suc r))) (last_issued office r) (office.later (suc r))

-- x was issued at the start, or in a round from 1 to r
abbrev pub Issued : Office → (r : Round) → Notice → Type 0
Issued office r x = (x ≡ office.first) ⊎ ((q : ℕ) × (1 ≤ q) × (q ≤ r) × (silent x ≡ false) × (office.later q ≡ x))

-- an office as document 02 has it: its first notice is one, and each later one has an edition above the last before it
pub record Rising (office : Office) : Type 0 where
  pub starts : silent office.first ≡ false
  pub rises : (q : ℕ) → silent (office.later (suc q)) ≡ false → edition_of (last_issued office q) < edition_of (office.later (suc q))

-- nothing is issued after round q, up to round r
abbrev pub Quiet : Office → (q r : Round) → Type 0
Quiet office q r = (k : ℕ) → q < k → k ≤ r → silent (office.later k) ≡ true

-- ---- scripts that a run cannot tell apart

-- two scripts have the same words of the fault set's members, on the links that there are, in the rounds 1 to r
abbrev pub SameWords : Plan → (faulty : Set) (r : Round) (script other : Script) → Type 0
SameWords p faulty r script other =
    (round sender hearer : ℕ) → 1 ≤ round → round ≤ r → hearer < p.n → hears p hearer sender ≡ true → mem sender faulty ≡ true
    → script round sender hearer ≡ other round sender hearer

-- silence: all words of the fault set's members are 0, in the rounds 1 to r; what anybody else's entries hold does not matter
abbrev pub Silent : Plan → (faulty : Set) (r : Round) (script : Script) → Type 0
Silent p faulty r script =
    (round sender hearer : ℕ) → 1 ≤ round → round ≤ r → hearer < p.n → mem sender faulty ≡ true → script round sender hearer ≡ 0
