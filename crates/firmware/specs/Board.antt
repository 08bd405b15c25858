-- A board's record and its groups, the step on them, and the later notice of its office. Assumes nothing.
use Rattle.std.specs.Prelude.{ℕ, List, eqb, length}
use Rattle.sets.specs.Tests.{◌and◌, pick}
use Rattle.sets.specs.Sets.{Terminal, Set}
use Rattle.quorum.specs.declared.BoundKind.{BoundKind}
use Rattle.quorum.specs.declared.BoundKind.TheVariants.{Most, Groups}
use Rattle.quorum.specs.declared.Bound.{Bound}
use Rattle.quorum.specs.Quorum.{most_terminals}
use Rattle.quorum.specs.Notice.{Layout, Notice}
use Rattle.terminal.specs.declared.State.{State}
use Rattle.terminal.specs.declared.State.TheVariants.{Waiting, Taken}
use Rattle.terminal.specs.declared.Note.{Note}
use Rattle.terminal.specs.declared.Record.{Record}
use Rattle.terminal.specs.Rule.{Round}
use Rattle.terminal.specs.Shown.{says}
use Rattle.terminal.specs.Answer.{cause_of, record_after, issue_cause, record_issued}
use Rattle.terminal.specs.Channel.{shared_cause_of, shared_record_after}
use Rattle.firmware.specs.declared.BoardRecord.{BoardRecord}
use Rattle.firmware.specs.declared.BoardAnswer.{BoardAnswer}
use Rattle.firmware.specs.declared.BoardGroups.{BoardGroups}

-- ---- the record

-- 1 is taken, three zeros are waiting; any other bytes stand for a state that no step takes: taken with notice 0, which is refused 13. Such bytes hold
-- edition 0, so that a later notice of edition 0 is refused 16 before that, and any other 13
unfoldable pub state_of : (taken : ℕ) (at : Round) (notice : Notice) → State
state_of taken at notice = pick (eqb taken 1) (Taken at notice) (pick (eqb taken 0 and eqb at 0 and eqb notice 0) Waiting (Taken 0 0))

unfoldable pub record_of : BoardRecord → Record
record_of b = record { state = state_of b.taken b.at b.notice; round = b.round; notes = b.notes }

-- a record as a board keeps it
unfoldable pub board_with : State → Round → List Note → BoardRecord
board_with Waiting round notes = record { taken = 0; at = 0; round = round; notice = 0; notes = notes }
board_with (Taken at notice) round notes = record { taken = 1; at = at; round = round; notice = notice; notes = notes }

unfoldable pub board_of : Record → BoardRecord
board_of r = board_with r.state r.round r.notes

-- ---- who may be bad together, as a board tells it

-- 0 is at most so many, 1 is so many groups; any other kind stands for a bound that no site has, which is refused 4: f is below n, and n is at most 20
unfoldable pub kind_of : (kind number : ℕ) → BoundKind
kind_of kind number = pick (eqb kind 0) (Most number) (pick (eqb kind 1) (Groups number) (Most most_terminals))

unfoldable pub bound_of : (kind : ℕ) → BoardGroups → Bound
bound_of kind told = record { kind = kind_of kind told.count; groups = told.groups }

-- ---- the answers

-- what a board is told of a number and a record: a refused record comes back as it went in, whatever its bytes
unfoldable pub answer_of : (before : BoardRecord) (number : ℕ) (after : Record) → BoardAnswer
answer_of before number after = pick (eqb number 0) (record { number = 0; after = board_of after }) (record { number = number; after = before })

-- the step on what the board's record stands for
unfoldable pub board_answer : (n : ℕ) (source : Terminal) (bound : Bound) (own : Terminal) (heard : Set) → BoardRecord → (said : List Notice) → BoardAnswer
board_answer n source bound own heard before said =
    answer_of before (cause_of n source bound own heard (record_of before) (length said)) (record_after n source bound own heard (record_of before) said)

-- the step of a shared channel, in the same way (document 02, P11)
unfoldable pub board_shared : (n : ℕ) (source : Terminal) (bound : Bound) (own : Terminal) (heard : Set) (default : Layout) → BoardRecord → (said : List Layout) → BoardAnswer
board_shared n source bound own heard default before said =
    answer_of before (shared_cause_of n source bound own heard default (record_of before) (length said)) (shared_record_after n source bound own heard default (record_of before) said)

-- the later notice of the office, in the same way
unfoldable pub board_issued : BoardRecord → Notice → BoardAnswer
board_issued before notice = answer_of before (issue_cause (record_of before) notice) (record_issued (record_of before) notice)

-- what the terminal says in the round after the one that the board's record shows; bytes that are no state say 0, since they stand for notice 0
unfoldable pub board_says : BoardRecord → Notice
board_says b = says (record_of b)

-- the version of the layout of a board's record and answer, and of the functions: it changes with any of them
abbrev pub layout_version : ℕ
layout_version = 5
