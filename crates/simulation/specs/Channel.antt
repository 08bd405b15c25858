-- What the run on a shared channel (document 02, P11) answers for all arguments: the documents' number for each cause of refusal, and the records; and that
-- good terminals agree. Words, the source's value and the default are layouts. Assumes nothing.
use Rattle.std.specs.Prelude.{ℕ, ◌+◌, ◌*◌, ◌-◌, ◌≤◌, ◌<◌, ◌≡◌, Bool, true, false, not, List, [], ◌∷◌, map, eqb, length}
use Rattle.sets.specs.Tests.{◌and◌, pick}
use Rattle.sets.specs.Causes.{◌gives◌, first_cause, given}
use Rattle.sets.specs.Sets.{Set, mem}
use Rattle.sets.specs.Tables.{table}
use Rattle.quorum.specs.Quorum.{most_terminals}
use Rattle.quorum.specs.Notice.{Layout, notice_of}
use Rattle.quorum.specs.Words.{start_sound}
use Rattle.terminal.specs.declared.State.TheVariants.{Taken}
use Rattle.terminal.specs.declared.Record.{Record}
use Rattle.terminal.specs.Shown.{shown, nothing_heard}
use Rattle.terminal.specs.Channel.{shared_cause_of}
use Rattle.plan.specs.declared.Plan.{Plan}
use Rattle.plan.specs.Plan.{heard_by}
use Rattle.faults.specs.Check.{shared_fault_cause_of}
use Rattle.closure.specs.Verdict.{verdict}
use Rattle.propagation.specs.Demand3.{Good}
use Rattle.propagation.specs.Channel.{shared_script_of, shared_sites, shared_site, carried, AsTrusted}
use Rattle.simulation.specs.Answer.{state_of}

-- the value and the default are layouts, and at most 40 rounds are played. A bad source's value is not used, and must be a layout all the same
unfoldable pub shared_start_sound : (value default : Layout) (rounds : ℕ) → Bool
shared_start_sound value default rounds = start_sound value rounds and not (eqb default 0)

-- the lists that are lent are as long as they should be: a word for each round and sender, a record for each terminal
unfoldable pub shared_lists_fit : Plan → (rounds words places : ℕ) → Bool
shared_lists_fit p rounds words places = eqb words (rounds * p.n) and eqb places p.n

-- the causes, in their order; 0 where none applies. Those of the plan and the fault set come first, and the source may be one of it
unfoldable pub shared_run_cause : Plan → (faulty : Set) (value default : Layout) (rounds words places : ℕ) → ℕ
shared_run_cause p faulty value default rounds words places =
    first_cause (
    given (shared_fault_cause_of p faulty)
    ∷ not (shared_start_sound value default rounds) gives 9
    ∷ not (shared_lists_fit p rounds words places) gives 12
    ∷ []
    )

-- the turns that the run is played in: one for each terminal in round 0 and in each round after it; none where the call is refused
unfoldable pub shared_turns_of : Plan → (faulty : Set) (value default : Layout) (rounds words places : ℕ) → ℕ
shared_turns_of p faulty value default rounds words places =
    pick (eqb (shared_run_cause p faulty value default rounds words places) 0) ((rounds + 1) * p.n) 0

-- the records afterwards: they show those of the run by the rules, or where the call is refused they are those that were there
unfoldable pub shared_records_after : Plan → (faulty : Set) (value default : Layout) (rounds : ℕ) (words : List Layout) (before : List Record) → List Record
shared_records_after p faulty value default rounds words before =
    pick (eqb (shared_run_cause p faulty value default rounds (length words) (length before)) 0)
    (map shown (shared_sites p faulty value default (shared_script_of p.n words) rounds)) before

-- the same where the records are an array of twenty: terminal b's record after the last round; waiting, round 0, nothing heard for b at or above n, and
-- for every b where the call is refused
unfoldable pub shared_array_after : Plan → (faulty : Set) (value default : Layout) (rounds : ℕ) (words : List Layout) → List Record
shared_array_after p faulty value default rounds words =
    pick (eqb (shared_run_cause p faulty value default rounds (length words) p.n) 0)
    (table most_terminals (λ b. shown (shared_site p faulty value default (shared_script_of p.n words) rounds b))) (table most_terminals (λ b. nothing_heard))

-- ---- that good terminals agree, of the run itself, for every accepted call

pub record AgreementHolds (p : Plan) (faulty value default rounds : ℕ) (words : List ℕ) (records : List Record) : Type 0 where
  -- in a passed plan, after n - 1 rounds or more, every good terminal holds what the source carried into round 1
  pub agree : (verdict p).passed ≡ true → p.n - 1 ≤ rounds → (b : ℕ) → Good p faulty b
      → (at : ℕ) × (state_of records b ≡ Taken at (notice_of 1 (carried p faulty value default (shared_script_of p.n words))))
  -- that is the source's value, if it is good
  pub trusted : mem p.source faulty ≡ false → carried p faulty value default (shared_script_of p.n words) ≡ value
  -- in every plan no good terminal holds another layout, and so no two of them different ones
  pub safe : (b : ℕ) → Good p faulty b → (at x : ℕ) → state_of records b ≡ Taken at x → x ≡ notice_of 1 (carried p faulty value default (shared_script_of p.n words))
  pub no_two : (b c : ℕ) → Good p faulty b → Good p faulty c → (at x to y : ℕ) → state_of records b ≡ Taken at x → state_of records c ≡ Taken to y → x ≡ y
  -- at good terminals the run is that of the old rules with a good source that says what was carried, but for the notes of the source
  pub as_trusted : (k b : ℕ) → k ≤ rounds → Good p faulty b → AsTrusted p faulty value default (shared_script_of p.n words) k b
  -- and no step was refused: that of round k + 1 is called on the record after round k, with n words
  pub steps : (k b : ℕ) → k < rounds → Good p faulty b
      → shared_cause_of p.n p.source p.bound b (heard_by p b) default (shown (shared_site p faulty value default (shared_script_of p.n words) k b)) p.n ≡ 0
