-- What the step, and the office's notice to its own terminal, answer for all arguments: the documents' number for each cause of refusal, and the record.
-- Assumes nothing.
use Rattle.std.specs.Prelude.{ℕ, Result, Ok, Err, Bool, true, not, List, [], ◌∷◌, eqb, ltb, leb, length, get_or}
use Rattle.sets.specs.Tests.{◌and◌, ◌implies◌, pick}
use Rattle.sets.specs.Causes.{◌gives◌, first_cause}
use Rattle.sets.specs.Sets.{Terminal, Set, mem, all}
use Rattle.quorum.specs.declared.Bound.{Bound}
use Rattle.quorum.specs.Quorum.{most_terminals, in_range, others, groups_sound}
use Rattle.quorum.specs.Notice.{Notice, edition_of, layout_of, silent}
use Rattle.quorum.specs.Words.{most_rounds}
use Rattle.terminal.specs.declared.State.{State}
use Rattle.terminal.specs.declared.State.TheVariants.{Waiting, Taken}
use Rattle.terminal.specs.declared.Note.{Note}
use Rattle.terminal.specs.declared.Record.{Record}
use Rattle.terminal.specs.declared.StepError.{StepError}
use Rattle.terminal.specs.declared.StepError.TheVariants.{WrongRange, WrongLink, WrongGroups, WrongLayout, WrongEdition, WrongLength, WrongRecord}
use Rattle.terminal.specs.Rule.{Round, held_by, step}
use Rattle.terminal.specs.Shown.{note_of, view_of, shown_over}

-- the documents' number of each outcome, 0 where nothing is refused
abbrev pub number_of : Result Unit StepError → ℕ
number_of (Ok done) = 0
number_of (Err WrongRange) = 4
number_of (Err WrongLink) = 5
number_of (Err WrongGroups) = 17
number_of (Err WrongLayout) = 9
number_of (Err WrongEdition) = 16
number_of (Err WrongLength) = 12
number_of (Err WrongRecord) = 13

-- not the source waiting; not taken later than the record's round, nor with edition 0 or layout 0 (document 02, P8)
unfoldable pub state_sound : State → (isSource : Bool) (round : Round) → Bool
state_sound Waiting isSource round = not isSource
state_sound (Taken at notice) isSource round = leb at round and not (silent notice)

-- no neighbour that it hears has more layouts, in its edition, than the record has rounds (document 02, P4)
unfoldable pub counts_sound : (heard : Set) (notes : List Note) (round : Round) → Bool
counts_sound heard notes round = all most_terminals (λ j. mem j heard implies leb (note_of notes j).count round)

-- the record can be stepped: before round 40, its own number below n, its state sound, and the counts of its notes
unfoldable pub record_sound : (n : ℕ) (source own : Terminal) (heard : Set) → Record → Bool
record_sound n source own heard r =
    ltb r.round most_rounds and ltb own n and state_sound r.state (eqb own source) r.round and counts_sound heard r.notes r.round

-- the causes, in their order (17 with document 02, P10); 0 where none applies
unfoldable pub cause_of : (n : ℕ) (source : Terminal) (bound : Bound) (own : Terminal) (heard : Set) → Record → (words : ℕ) → ℕ
cause_of n source bound own heard r words =
    first_cause (
    not (in_range n source bound.kind) gives 4
    ∷ not (others n own heard) gives 5
    ∷ not (groups_sound n source bound) gives 17
    ∷ not (record_sound n source own heard r) gives 13
    ∷ not (eqb words n) gives 12
    ∷ []
    )

-- the record that comes back: the stepped one, or where the step is refused the one that went in. The step is the rule's on what the record says, shown in
-- its place: a neighbour that is not heard keeps its note, and of one that is heard only the count and the place of a new layout change, or a higher edition
-- takes the whole note
unfoldable pub record_after : (n : ℕ) (source : Terminal) (bound : Bound) (own : Terminal) (heard : Set) → Record → (said : List Notice) → Record
record_after n source bound own heard r said =
    pick (eqb (cause_of n source bound own heard r (length said)) 0)
    (shown_over (λ j. mem j heard) r (step n source bound own heard (λ j. get_or said j 0) (view_of r)))
    r

-- ---- the office's terminal takes a later notice (document 02, P8)

-- the causes, in their order: layout 0; edition 0, or not above the one that is held; a record that waits, is past round 40, or could not be stepped by its state
unfoldable pub issue_cause : Record → Notice → ℕ
issue_cause r notice =
    first_cause (
    eqb (layout_of notice) 0 gives 9
    ∷ not (ltb (held_by r.state) (edition_of notice)) gives 16
    ∷ not (leb r.round most_rounds and state_sound r.state true r.round) gives 13
    ∷ []
    )

-- the record has taken the notice in its round, all else is as it was; where it is refused it is the one that went in
unfoldable pub record_issued : Record → Notice → Record
record_issued r notice = pick (eqb (issue_cause r notice) 0) (record { state = Taken r.round notice; round = r.round; notes = r.notes }) r
