-- A board's record stands for a record, and the answers on it for the terminal's. Assumes nothing.
use Prim.Native.Nat.{ℕ, zero, suc, ◌<◌}
use mathlib.Core.Path.{◌≡◌, refl, sym, ap, ◌∙◌}
use mathlib.Core.Bool.{false}
use mathlib.Core.List.{List}
use native.Mathlib.Omega.{arith}
use borrow.Author.Tests.{ne_eqb, leb-true, ltb-true, lt-ltb}
use lib.Dec.{eqb, leb}
use lib.ListN.{length}
use Rattle.sets.specs.Tests.{◌and◌, pick}
use Rattle.sets.specs.Tables.{table}
use Rattle.sets.proofs.Tables.{table_is}
use Rattle.sets.proofs.Bools.{pick_no, pick_case, no_by, not_i, not_yes, and_l, and_r, and_no_r}
use Rattle.sets.proofs.Causes.{cause_here, cause_later}
use Rattle.quorum.specs.declared.BoundKind.TheVariants.{Most, Groups}
use Rattle.quorum.specs.declared.Bound.{Bound}
use Rattle.quorum.specs.Quorum.{most_terminals, no_groups, at_most, in_range}
use Rattle.quorum.specs.Notice.{Notice, edition_of, layout_of, silent}
use Rattle.quorum.proofs.Notices.{said_edition, said_layout, silent_zero, edition_zero}
use Rattle.terminal.specs.declared.State.{State}
use Rattle.terminal.specs.declared.State.TheVariants.{Waiting, Taken}
use Rattle.terminal.specs.declared.Note.{Note}
use Rattle.terminal.specs.declared.Record.{Record}
use Rattle.terminal.specs.Rule.{held_by}
use Rattle.terminal.specs.Shown.{note_of}
use Rattle.terminal.specs.Answer.{state_sound, cause_of, record_after, issue_cause, record_issued}
use Rattle.terminal.specs.Channel.{shared_cause_of, shared_record_after}
use Rattle.firmware.specs.declared.BoardRecord.{BoardRecord}
use Rattle.firmware.specs.declared.BoardAnswer.{BoardAnswer}
use Rattle.firmware.specs.declared.BoardGroups.{BoardGroups}
use Rattle.firmware.specs.Board.{state_of, record_of, board_with, board_of, kind_of, bound_of, answer_of, board_answer, board_shared, board_issued}

-- what a board keeps of a record stands for that record, so that the answer of one call is what the next is given
state_again : (s : State) (round : ℕ) (notes : List Note) → record_of (board_with s round notes) ≡ record { state = s; round = round; notes = notes }
unfolding record_of board_with state_of pick ◌and◌
state_again Waiting round notes = refl
state_again (Taken at notice) round notes = refl

pub again : (r : Record) → record_of (board_of r) ≡ r
unfolding board_of
again r = state_again r.state r.round r.notes

-- twenty notes, one after the other, are the notes
pub notes_again : (notes : List Note) → length notes ≡ 20 → table 20 (note_of notes) ≡ notes
notes_again notes e = sym (table_is 20 (note_of notes) _ notes e (λ j k. refl))

-- ---- the answers, by the terminal's

module _ (before : BoardRecord) (r : Record) (e : r ≡ record_of before) (number : ℕ) (after : Record) where
  pub step_answered : (n source : ℕ) (bound : Bound) (own heard : ℕ) (said : List ℕ) (b : Bound) → b ≡ bound
      → number ≡ cause_of n source b own heard r (length said)
      → after ≡ record_after n source b own heard r said
      → answer_of before number after ≡ board_answer n source bound own heard before said
  unfolding board_answer
  step_answered n source bound own heard said b q k a =
      ap (λ (x : ℕ). answer_of before x after) k
      ∙ ap (λ (x : Record). answer_of before (cause_of n source b own heard r (length said)) x) a
      ∙ ap (λ (x : Bound). answer_of before (cause_of n source x own heard r (length said)) (record_after n source x own heard r said)) q
      ∙ ap (λ (x : Record). answer_of before (cause_of n source bound own heard x (length said)) (record_after n source bound own heard x said)) e

  pub shared_answered : (n source : ℕ) (bound : Bound) (own heard default : ℕ) (said : List ℕ) (b : Bound) → b ≡ bound
      → number ≡ shared_cause_of n source b own heard default r (length said)
      → after ≡ shared_record_after n source b own heard default r said
      → answer_of before number after ≡ board_shared n source bound own heard default before said
  unfolding board_shared
  shared_answered n source bound own heard default said b q k a =
      ap (λ (x : ℕ). answer_of before x after) k
      ∙ ap (λ (x : Record). answer_of before (shared_cause_of n source b own heard default r (length said)) x) a
      ∙ ap (λ (x : Bound). answer_of before (shared_cause_of n source x own heard default r (length said)) (shared_record_after n source x own heard default r said)) q
      ∙ ap (λ (x : Record). answer_of before (shared_cause_of n source bound own heard default x (length said)) (shared_record_after n source bound own heard default x said)) e

  pub issue_answered : (notice : Notice) → number ≡ issue_cause r notice → after ≡ record_issued r notice → answer_of before number after ≡ board_issued before notice
  unfolding board_issued
  issue_answered notice k a =
      ap (λ (x : ℕ). answer_of before x after) k
      ∙ ap (λ (x : Record). answer_of before (issue_cause r notice) x) a
      ∙ ap (λ (x : Record). answer_of before (issue_cause x notice) (record_issued x notice)) e

  -- a refused record has come back as it went in
  pub step_kept : (n source : ℕ) (bound : Bound) (own heard : ℕ) (said : List ℕ)
      → number ≡ cause_of n source bound own heard r (length said)
      → after ≡ record_after n source bound own heard r said
      → (number ≡ 0 → ⊥) → after ≡ record_of before
  unfolding record_after
  step_kept n source bound own heard said k a z = a ∙ pick_no _ _ _ (ne_eqb _ 0 (λ y. z (k ∙ y))) ∙ e

  pub shared_kept : (n source : ℕ) (bound : Bound) (own heard default : ℕ) (said : List ℕ)
      → number ≡ shared_cause_of n source bound own heard default r (length said)
      → after ≡ shared_record_after n source bound own heard default r said
      → (number ≡ 0 → ⊥) → after ≡ record_of before
  unfolding shared_record_after
  shared_kept n source bound own heard default said k a z = a ∙ pick_no _ _ _ (ne_eqb _ 0 (λ y. z (k ∙ y))) ∙ e

  pub issue_kept : (notice : Notice) → number ≡ issue_cause r notice → after ≡ record_issued r notice → (number ≡ 0 → ⊥) → after ≡ record_of before
  unfolding record_issued
  issue_kept notice k a z = a ∙ pick_no _ _ _ (ne_eqb _ 0 (λ y. z (k ∙ y))) ∙ e

-- a refused record comes back as it went in, whatever the number
pub refused : (before : BoardRecord) (number : ℕ) (after : Record) (k : ℕ) → number ≡ k → (k ≡ 0 → ⊥)
    → answer_of before number after ≡ record { number = k; after = before }
unfolding answer_of
refused before number after k e z =
    pick_no _ _ _ (ne_eqb number 0 (λ y. z (sym e ∙ y))) ∙ ap (λ (x : ℕ). record { number = x; after = before }) e

-- ---- a later notice changes no note

pub board_notes : (s : State) (round : ℕ) (notes : List Note) → (board_with s round notes).notes ≡ notes
unfolding board_with
board_notes Waiting round notes = refl
board_notes (Taken at notice) round notes = refl

board_round : (s : State) (round : ℕ) (notes : List Note) → (board_with s round notes).round ≡ round
unfolding board_with
board_round Waiting round notes = refl
board_round (Taken at notice) round notes = refl

-- a board's record, of which all but its state comes from what it stood for
pub kept_board : (before x : BoardRecord) (r : Record) → x ≡ board_of r → r ≡ record_of before
    → record { taken = before.taken; at = before.at; round = x.round; notice = before.notice; notes = x.notes } ≡ before
unfolding board_of record_of
kept_board before x r e k =
    let q = ap (λ (y : BoardRecord). y.round) e ∙ board_round r.state r.round r.notes ∙ ap (λ (y : Record). y.round) k in
    let p = ap (λ (y : BoardRecord). y.notes) e ∙ board_notes r.state r.round r.notes ∙ ap (λ (y : Record). y.notes) k in
    λ i. record { taken = before.taken; at = before.at; round = q i; notice = before.notice; notes = p i }

answer_notes : (before : BoardRecord) (number : ℕ) (after : Record) → after.notes ≡ before.notes → (answer_of before number after).after.notes ≡ before.notes
unfolding answer_of board_of
answer_notes before number after e =
    pick_case (λ (a : BoardAnswer). a.after.notes ≡ before.notes) (eqb number 0) _ _
    (λ y. board_notes after.state after.round after.notes ∙ e) (λ y. refl)

pub issued_notes : (before : BoardRecord) (notice : Notice) → (board_issued before notice).after.notes ≡ before.notes
unfolding board_issued record_of record_issued
issued_notes before notice =
    answer_notes before _ _ (pick_case (λ (r : Record). r.notes ≡ before.notes) (eqb (issue_cause _ notice) 0) _ _ (λ y. refl) (λ y. refl))

-- ---- the two kinds of bound are those of a site

pub told_f : (f : ℕ) → bound_of 0 (record { count = f; groups = no_groups }) ≡ at_most f
unfolding bound_of kind_of pick
told_f f = refl

pub told_groups : (g : BoardGroups) → bound_of 1 g ≡ record { kind = Groups g.count; groups = g.groups }
unfolding bound_of kind_of pick
told_groups g = refl

-- ---- what follows for a kind of bound that there is not, and for bytes that are no state

-- no site has f 20
none_has : (n source : ℕ) → in_range n source (Most most_terminals) ≡ false
unfolding in_range
none_has n source = no_by (λ y.
    let most = leb-true n 20 (and_l _ _ (and_r (leb 2 n) _ y)) in
    let above = ltb-true 20 n (and_r _ _ (and_r _ _ (and_r (leb 2 n) _ y))) in
    absurd (omega (arith, most, above)))

no_kind : (kind number : ℕ) → (kind ≡ 0 → ⊥) → (kind ≡ 1 → ⊥) → kind_of kind number ≡ Most most_terminals
unfolding kind_of
no_kind kind number x y = pick_no _ _ _ (ne_eqb kind 0 x) ∙ pick_no _ _ _ (ne_eqb kind 1 y)

-- a kind that is neither 0 nor 1 is refused 4
pub kind_refused : (n source kind : ℕ) (told : BoardGroups) (own heard : ℕ) (before : BoardRecord) (said : List ℕ) → (kind ≡ 0 → ⊥) → (kind ≡ 1 → ⊥)
    → board_answer n source (bound_of kind told) own heard before said ≡ record { number = 4; after = before }
unfolding board_answer cause_of bound_of
kind_refused n source kind told own heard before said x y =
    refused before _ _ 4 (cause_here _ 4 _ (not_i (ap (in_range n source) (no_kind kind told.count x y) ∙ none_has n source))) (λ z. absurd (omega (arith, z)))

above_none : (held edition : ℕ) → held ≡ 0 → (edition ≡ 0 → ⊥) → held < edition
above_none held zero e z = absurd (z refl)
above_none held (suc edition) e z = omega (arith, e)

-- a later notice to bytes that are no state is refused 13, unless a half of it is 0
bytes_cause : (round : ℕ) (notes : List Note) (notice : Notice) → silent notice ≡ false
    → issue_cause (record { state = Taken 0 0; round = round; notes = notes }) notice ≡ 13
unfolding issue_cause held_by state_sound
bytes_cause round notes notice x =
    cause_later _ 9 _ (ne_eqb (layout_of notice) 0 (said_layout notice x))
    ∙ cause_later _ 16 _ (not_yes (lt-ltb (edition_of 0) (edition_of notice) (above_none (edition_of 0) (edition_of notice) edition_zero (said_edition notice x))))
    ∙ cause_here _ 13 _ (not_i (and_no_r (leb round 40) _ (and_no_r (leb 0 round) _ (not_yes silent_zero))))

pub bytes_refused : (before : BoardRecord) (notice : Notice) → state_of before.taken before.at before.notice ≡ Taken 0 0 → silent notice ≡ false
    → board_issued before notice ≡ record { number = 13; after = before }
unfolding board_issued record_of
bytes_refused before notice s x =
    refused before _ _ 13
    (ap (λ (t : State). issue_cause (record { state = t; round = before.round; notes = before.notes }) notice) s
    ∙ bytes_cause before.round before.notes notice x)
    (λ z. absurd (omega (arith, z)))
