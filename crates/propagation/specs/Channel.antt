-- The run on a shared channel (document 02, P11; document 000, section 4.2), for any number of rounds: every word of a terminal reaches all who hear it
-- alike, and the source itself may be bad. Words, the source's value and the default are layouts, which count as edition 1; the office issues nothing
-- after the start. Then what is claimed of it. Assumes nothing.
use Rattle.std.specs.Prelude.{ℕ, zero, suc, ◌-◌, ◌≤◌, ◌<◌, ◌≡◌, true, false, List, get_or}
use Rattle.sets.specs.Tests.{pick}
use Rattle.sets.specs.Tables.{table}
use Rattle.sets.specs.Sets.{Terminal, Set, mem}
use Rattle.quorum.specs.Notice.{Layout, notice_of, layout_of, first_edition}
use Rattle.quorum.specs.Words.{shared_place_of}
use Rattle.terminal.specs.declared.State.TheVariants.{Taken}
use Rattle.terminal.specs.Rule.{View, Round, start, spoken_by, says_in}
use Rattle.terminal.specs.Channel.{word_or, shared_step}
use Rattle.plan.specs.declared.Plan.{Plan}
use Rattle.plan.specs.Plan.{heard_by, hears}
use Rattle.closure.specs.FaultSet.{beside_source, is_shared_fault_set}
use Rattle.closure.specs.Verdict.{verdict}
use Rattle.propagation.specs.Run.{Script, one_notice, start_record, site}
use Rattle.propagation.specs.Demand3.{Good}

-- what the terminals of the fault set say: one word a round and sender, 0 for silence
abbrev pub SharedScript : Type 0
SharedScript = (round : Round) (sender : Terminal) → Layout

-- the script that a lent list of words stands for: round 1 first, then by sender; 0 past its end. An entry has two bytes: it is its layout
unfoldable pub shared_script_of : (n : ℕ) (words : List Layout) → SharedScript
shared_script_of n words round sender = layout_of (get_or words (shared_place_of n round sender) 0)

-- ---- the run

-- a terminal of the fault set waits with nothing heard, the source too; a good source starts as taken in round 0 with its value, all others start waiting
unfoldable pub shared_start : Plan → (faulty : Set) (value : Layout) (b : Terminal) → View
shared_start p faulty value b = pick (mem b faulty) start (start_record p (notice_of 1 value) b)

-- what terminal b hears from terminal j in a round, where `before` are the records after the round before
unfoldable pub shared_from : Plan → (faulty : Set) (script : SharedScript) (round : Round) (before : List View) (b j : Terminal) → Layout
shared_from p faulty script round before b j =
    pick (hears p b j) (pick (mem j faulty) (script round j) (layout_of (says_in round (get_or before j start).state))) 0

-- a terminal's record after a round; one of the fault set stays waiting, round 0, nothing heard
unfoldable pub shared_record_in : Plan → (faulty : Set) (default : Layout) (script : SharedScript) (round : Round) (before : List View) (b : Terminal) → View
shared_record_in p faulty default script round before b =
    pick (mem b faulty) start
    (shared_step p.n p.source p.bound b (heard_by p b) default (shared_from p faulty script round before b) (get_or before b start))

-- the site after a number of rounds
unfoldable pub shared_sites : Plan → (faulty : Set) (value default : Layout) (script : SharedScript) (rounds : Round) → List View
shared_sites p faulty value default script zero = table p.n (shared_start p faulty value)
shared_sites p faulty value default script (suc r) = table p.n (shared_record_in p faulty default script (suc r) (shared_sites p faulty value default script r))

-- terminal b's record after r rounds
unfoldable pub shared_site : Plan → (faulty : Set) (value default : Layout) (script : SharedScript) (rounds : Round) (b : Terminal) → View
shared_site p faulty value default script r b = get_or (shared_sites p faulty value default script r) b start

-- two scripts have the same words of the fault set's members, in the rounds 1 to r
abbrev pub SameSharedWords : (faulty : Set) (r : Round) (script other : SharedScript) → Type 0
SameSharedWords faulty r script other = (round sender : ℕ) → 1 ≤ round → round ≤ r → mem sender faulty ≡ true → script round sender ≡ other round sender

-- ---- a run by the old rules that no good terminal can tell from it

-- what the source carries into round 1: its value if it is good; if it is bad its word of round 1, or the default if it said none
unfoldable pub carried : Plan → (faulty : Set) (value default : Layout) (script : SharedScript) → Layout
carried p faulty value default script = pick (mem p.source faulty) (word_or default (script 1 p.source)) value

-- the same words to every hearer
abbrev pub to_all : SharedScript → Script
to_all script round sender hearer = first_edition (script round sender)

-- the old rules, with the source good and saying what was carried, and the others of the fault set bad
abbrev pub trusted_site : Plan → (faulty : Set) (value default : Layout) (script : SharedScript) (rounds : Round) (b : Terminal) → View
trusted_site p faulty value default script r b =
    site p (beside_source p faulty) (one_notice (notice_of 1 (carried p faulty value default script))) (to_all script) r b

-- state, round and all notes but the source's are the same
pub record AsTrusted (p : Plan) (faulty value default : ℕ) (script : SharedScript) (r b : ℕ) : Type 0 where
  pub state : (shared_site p faulty value default script r b).state ≡ (trusted_site p faulty value default script r b).state
  pub round : (shared_site p faulty value default script r b).round ≡ (trusted_site p faulty value default script r b).round
  pub notes : (j : ℕ) → (j ≡ p.source → ⊥) → spoken_by (shared_site p faulty value default script r b).notes j ≡ spoken_by (trusted_site p faulty value default script r b).notes j

-- ---- the claim, of every plan

-- value, default and words are layouts, of two bytes each; the first two are not 0
pub record Layouts (value default : ℕ) (script : SharedScript) : Type 0 where
  pub some_value : value ≡ 0 → ⊥
  pub some_default : default ≡ 0 → ⊥
  pub value_small : value < 65536
  pub default_small : default < 65536
  pub words_small : (round sender : ℕ) → script round sender < 65536

pub record Agreement (p : Plan) : Type 0 where
  -- at good terminals the run is that of the old rules, but for the notes of the source
  pub as_trusted : (faulty : ℕ) → is_shared_fault_set p faulty ≡ true → (value default : ℕ) (script : SharedScript) → Layouts value default script
      → (r b : ℕ) → Good p faulty b → AsTrusted p faulty value default script r b
  -- in a passed plan all good terminals hold one and the same layout after n - 1 rounds or more: what the source carried
  pub agree : (verdict p).passed ≡ true → (faulty : ℕ) → is_shared_fault_set p faulty ≡ true → (value default : ℕ) (script : SharedScript) → Layouts value default script
      → (r b : ℕ) → p.n - 1 ≤ r → Good p faulty b
      → (at : ℕ) × ((shared_site p faulty value default script r b).state ≡ Taken at (notice_of 1 (carried p faulty value default script)))
  -- that is the source's value, if it is good
  pub trusted : (faulty : ℕ) → mem p.source faulty ≡ false → (value default : ℕ) (script : SharedScript) → carried p faulty value default script ≡ value
  -- in every plan, at any round: no good terminal holds another layout than that
  pub safe : (faulty : ℕ) → is_shared_fault_set p faulty ≡ true → (value default : ℕ) (script : SharedScript) → Layouts value default script
      → (r b : ℕ) → Good p faulty b → (at x : ℕ) → (shared_site p faulty value default script r b).state ≡ Taken at x
      → x ≡ notice_of 1 (carried p faulty value default script)
  -- so no two of them ever hold different ones
  pub no_two : (faulty : ℕ) → is_shared_fault_set p faulty ≡ true → (value default : ℕ) (script : SharedScript) → Layouts value default script
      → (r q b c : ℕ) → Good p faulty b → Good p faulty c → (at x to y : ℕ)
      → (shared_site p faulty value default script r b).state ≡ Taken at x → (shared_site p faulty value default script q c).state ≡ Taken to y → x ≡ y
