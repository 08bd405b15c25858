-- One terminal's round on a shared channel (document 02, P11; document 000, section 4.2), where every word reaches all who hear its sender and the source
-- itself may be bad. What is said, and the default, are layouts, which count as edition 1. Assumes nothing.
use Rattle.std.specs.Prelude.{ℕ, ◌+◌, Bool, false, not, List, [], ◌∷◌, eqb, length, get_or}
use Rattle.sets.specs.Tests.{◌and◌, pick}
use Rattle.sets.specs.Causes.{◌gives◌, first_cause}
use Rattle.sets.specs.Sets.{Terminal, Set, mem}
use Rattle.quorum.specs.declared.Bound.{Bound}
use Rattle.quorum.specs.Quorum.{in_range, others, groups_sound}
use Rattle.quorum.specs.Notice.{Layout, notice_of, first_edition}
use Rattle.terminal.specs.declared.State.{State}
use Rattle.terminal.specs.declared.State.TheVariants.{Waiting, Taken}
use Rattle.terminal.specs.declared.Record.{Record}
use Rattle.terminal.specs.Rule.{Round, View, step}
use Rattle.terminal.specs.Shown.{view_of, shown_over}
use Rattle.terminal.specs.Answer.{record_sound}

-- ---- the rule

-- round 1 of a terminal that waits and hears the source
unfoldable pub first_hearing : State → Round → (hearsSource : Bool) → Bool
first_hearing Waiting round hearsSource = eqb round 0 and hearsSource
first_hearing (Taken at notice) round hearsSource = false

-- the source's word of the round, or the default if it said none
unfoldable pub word_or : (default word : Layout) → Layout
word_or default word = pick (eqb word 0) default word

-- the old rules, but that whoever hears the source takes that in round 1. Its notes of the round are kept as always
unfoldable pub shared_step : (n : ℕ) (source : Terminal) (bound : Bound) (own : Terminal) (heard : Set) (default : Layout) (said : Terminal → Layout) → View → View
shared_step n source bound own heard default said r = record {
  state =
      pick (first_hearing r.state r.round (mem source heard)) (Taken (r.round + 1) (notice_of 1 (word_or default (said source))))
      (step n source bound own heard (λ j. first_edition (said j)) r).state;
  round = (step n source bound own heard (λ j. first_edition (said j)) r).round;
  notes = (step n source bound own heard (λ j. first_edition (said j)) r).notes;
}

-- ---- the answer for all arguments

-- the causes of a step, and after 17 and before 13 a default that is 0
unfoldable pub shared_cause_of : (n : ℕ) (source : Terminal) (bound : Bound) (own : Terminal) (heard : Set) (default : Layout) → Record → (words : ℕ) → ℕ
shared_cause_of n source bound own heard default r words =
    first_cause (
    not (in_range n source bound.kind) gives 4
    ∷ not (others n own heard) gives 5
    ∷ not (groups_sound n source bound) gives 17
    ∷ eqb default 0 gives 9
    ∷ not (record_sound n source own heard r) gives 13
    ∷ not (eqb words n) gives 12
    ∷ []
    )

-- the record that comes back: the stepped one, or where the step is refused the one that went in
unfoldable pub shared_record_after : (n : ℕ) (source : Terminal) (bound : Bound) (own : Terminal) (heard : Set) (default : Layout) → Record → (said : List Layout) → Record
shared_record_after n source bound own heard default r said =
    pick (eqb (shared_cause_of n source bound own heard default r (length said)) 0)
    (shown_over (λ j. mem j heard) r (shared_step n source bound own heard default (λ j. get_or said j 0) (view_of r)))
    r
