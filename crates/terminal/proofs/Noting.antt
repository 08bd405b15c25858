-- The loop that notes what each neighbour said: row by row it leaves the rule's notes, shown in the place of those that were there; and the round of a record.
-- Assumes nothing.
use Prim.Native.Nat.{ℕ, ◌+◌, ◌≤◌, ◌<◌}
use mathlib.Core.Path.{◌≡◌, refl, sym, ap, ◌∙◌, subst}
use mathlib.Core.Logic.{⊎_elim}
use mathlib.Core.Bool.{Bool, true, false, not}
use mathlib.Core.List.{List, [], map}
use native.Mathlib.Nat.{not-suc-le-zero}
use native.Mathlib.Omega.{arith}
use borrow.Author.Count.{below_more}
use lib.Dec.{leb}
use borrow.Author.Tests.{eq-eqb, ne_eqb, le-leb, lt-leb}
use lib.ListN.{length, set, length-set, length-map, get_or-eq_default}
use lib.Seq.{get_or-set_same, get_or-set_other, ext_get_or}
use Rattle.sets.specs.Tests.{◌and◌, pick}
use Rattle.sets.specs.Sets.{mem}
use Rattle.sets.proofs.Bools.{decide, and_i, and_yes, and_no_l, not_i, pick_yes, pick_no}
use Rattle.sets.proofs.Laws.{below_or_not}
use Rattle.quorum.specs.declared.Bound.{Bound}
use Rattle.terminal.specs.declared.Note.{Note}
use Rattle.terminal.specs.declared.Record.{Record}
use Rattle.terminal.specs.declared.State.{State}
use Rattle.terminal.specs.Rule.{Spoken, nothing_said, spoken_by, in_edition, among, is_new, with_new, with_word, noted, chosen, held_by, taking, step}
use Rattle.terminal.specs.Shown.{note_of, values_in, spoken_in, Whole, view_of, written_over, notes_over, shown_over}
use Rattle.terminal.specs.Votes.{HavePlaces, HaveRoom}
use Rattle.terminal.proofs.Values.{in_own, in_other, word_change, word_length}
use Rattle.terminal.proofs.Notes.{noted_length, noted_at, noted_above, noted_by, noted_unheard}
use Rattle.terminal.proofs.Shown.{values_length, written_says, written_self, view_spoken, over_heard, over_unheard, over_length, over_by}

-- ---- what a note lacks

module _ (note : Note) (edition layout : ℕ) where
  abbrev lacking : Bool
  lacking = leb note.edition edition and not (among layout (in_edition edition (spoken_in note)))

  pub lacks_higher : note.edition < edition → lacking ≡ true
  unfolding spoken_in among
  lacks_higher l = and_i _ _ (le-leb note.edition edition (omega arith)) (not_i (ap (among layout) (in_other edition (spoken_in note) (λ e. omega arith))))

  pub lacks_own : note.edition ≡ edition → lacking ≡ not (among layout (values_in note))
  unfolding spoken_in
  lacks_own e = and_yes _ _ (le-leb note.edition edition (omega arith)) ∙ ap (λ (l : List ℕ). not (among layout l)) (in_own edition (spoken_in note) e)

  pub lacks_lower : edition < note.edition → lacking ≡ false
  lacks_lower l = and_no_l _ _ (lt-leb note.edition edition l)

-- a note after a word: what is said with a new one is written over it
unfoldable pub note_after : Bool → Note → ℕ → Note
note_after hears note said = pick (is_new hears (spoken_in note) said) (written_over note (with_new (spoken_in note) said)) note

-- it is what the rule's notes written over it make of it
row_after : (hears : Bool) (note : Note) (said : ℕ) → length note.values ≡ 40 → (hears ≡ true → note.count < 40)
    → note_after hears note said ≡ pick hears (written_over note (with_word hears (spoken_in note) said)) note
unfolding note_after is_new
row_after hears note said forty room =
    ⊎_elim
    (λ h.
    let small : note.count < 40 = room h in
    ⊎_elim
    (λ p. pick_no _ _ _ p.0 ∙ sym (pick_yes _ _ _ h ∙ ap (written_over note) p.1 ∙ written_self note forty (omega arith)))
    (λ p. pick_yes _ _ _ p.0 ∙ sym (pick_yes _ _ _ h ∙ ap (written_over note) p.1))
    (word_change hears (spoken_in note) said))
    (λ h. pick_no _ _ _ (and_no_l _ _ h) ∙ sym (pick_no _ _ _ h))
    (decide hears)

-- the record while it notes: the terminals below j have been heard, all else is as it was
pub record NotedBelow (heard : ℕ) (said : ℕ → ℕ) (before : Record) (j : ℕ) (r : Record) : Type 0 where
  pub state : r.state ≡ before.state
  pub round : r.round ≡ before.round
  pub twenty : length r.notes ≡ 20
  pub done : (i : ℕ) → i < j → note_of r.notes i ≡ note_after (mem i heard) (note_of before.notes i) (said i)
  pub rest : (i : ℕ) → j ≤ i → note_of r.notes i ≡ note_of before.notes i

module _ (heard : ℕ) (said : ℕ → ℕ) (before : Record) where
  pub noting_starts : length before.notes ≡ 20 → NotedBelow heard said before 0 before
  noting_starts e = record { state = refl; round = refl; twenty = e; done = λ i k. absurd (not-suc-le-zero k); rest = λ i k. refl }

  module _ (j : ℕ) (r : Record) (below : NotedBelow heard said before j r) (k : j < 20) where
    -- a turn that adds a word
    pub noting_new : (x : Note) → is_new (mem j heard) (spoken_in (note_of r.notes j)) (said j) ≡ true
        → x ≡ written_over (note_of r.notes j) (with_new (spoken_in (note_of r.notes j)) (said j))
        → NotedBelow heard said before (j + 1) (record { state = r.state; round = r.round; notes = set r.notes j x })
    unfolding note_after
    noting_new x t e =
        let same : note_of r.notes j ≡ note_of before.notes j = below.rest j (omega arith) in
        record {
          state = below.state;
          round = below.round;
          twenty = length-set r.notes j x ∙ below.twenty;
          done = below_more (λ (i : ℕ). note_of (set r.notes j x) i ≡ note_after (mem i heard) (note_of before.notes i) (said i)) j
              (λ i h. get_or-set_other r.notes j i x _ (λ q. omega arith) ∙ below.done i h)
              (get_or-set_same r.notes j x _ (let l = below.twenty in omega arith) ∙ e ∙ sym (pick_yes _ _ _ t)
              ∙ ap (λ (m : Note). note_after (mem j heard) m (said j)) same);
          rest = λ i h. get_or-set_other r.notes j i x _ (λ q. omega arith) ∙ below.rest i (omega arith);
        }

    -- a turn that adds none
    pub noting_old : is_new (mem j heard) (spoken_in (note_of r.notes j)) (said j) ≡ false → NotedBelow heard said before (j + 1) r
    unfolding note_after
    noting_old t =
        let same : note_of r.notes j ≡ note_of before.notes j = below.rest j (omega arith) in
        record {
          state = below.state;
          round = below.round;
          twenty = below.twenty;
          done = below_more (λ (i : ℕ). note_of r.notes i ≡ note_after (mem i heard) (note_of before.notes i) (said i)) j below.done
              (sym (pick_no _ _ _ t) ∙ ap (λ (m : Note). note_after (mem j heard) m (said j)) same);
          rest = λ i h. below.rest i (omega arith);
        }

  module _ (n : ℕ) (r : Record) (below : NotedBelow heard said before n r) (whole : Whole before.notes) (room : HaveRoom heard before.notes) where
    abbrev after : List Spoken
    after = noted n (λ j. mem j heard) said (map spoken_in before.notes)

    heard_row : (i : ℕ) → i < 20 → i < n
        → note_of r.notes i ≡ pick (mem i heard) (written_over (note_of before.notes i) (spoken_by after i)) (note_of before.notes i)
    heard_row i k l =
        below.done i l ∙ row_after (mem i heard) (note_of before.notes i) (said i) (whole.forty i k) (room i)
        ∙ ap (λ (spoken : Spoken). pick (mem i heard) (written_over (note_of before.notes i) spoken) (note_of before.notes i))
        (ap (λ (spoken : Spoken). with_word (mem i heard) spoken (said i)) (sym (view_spoken before.notes i))
        ∙ sym (noted_at n (λ j. mem j heard) said (map spoken_in before.notes) i l (let e = length-map before.notes spoken_in in let t = whole.twenty in omega arith)))

    other_row : (i : ℕ) → i < 20 → n ≤ i
        → note_of r.notes i ≡ pick (mem i heard) (written_over (note_of before.notes i) (spoken_by after i)) (note_of before.notes i)
    other_row i k l =
        below.rest i l
        ∙ ⊎_elim
        (λ h.
        let small : (note_of before.notes i).count < 40 = room i h in
        sym (pick_yes _ _ _ h
        ∙ ap (written_over (note_of before.notes i)) (noted_above n (λ j. mem j heard) said (map spoken_in before.notes) i l ∙ view_spoken before.notes i)
        ∙ written_self (note_of before.notes i) (whole.forty i k) (omega arith)))
        (λ h. sym (pick_no _ _ _ h))
        (decide (mem i heard))

    pub noting_ends : r ≡ record { state = before.state; round = before.round; notes = notes_over (λ j. mem j heard) before.notes after }
    noting_ends =
        let e = over_by (λ j. mem j heard) before.notes after r.notes below.twenty (λ i k. ⊎_elim (heard_row i k) (other_row i k) (below_or_not i n)) in
        (λ m. record { state = below.state m; round = below.round m; notes = e m })

-- ---- what the notes then say

module _ (heard : ℕ) (notes : List Note) (whole : Whole notes) (room : HaveRoom heard notes) where
  values_few : (j : ℕ) → j < 20 → mem j heard ≡ true → length (spoken_in (note_of notes j)).layouts < 40
  unfolding spoken_in
  values_few j k h =
      let l : (note_of notes j).count < 40 = room j h in
      let e = values_length (note_of notes j) (whole.forty j k) (omega arith) in
      omega arith

  module _ (n : ℕ) (said : ℕ → ℕ) where
    abbrev next : List Spoken
    next = noted n (λ j. mem j heard) said (map spoken_in notes)

    next_few : (j : ℕ) → j < 20 → mem j heard ≡ true → length (spoken_by next j).layouts ≤ 40
    next_few j k h =
        let l : length (spoken_by (map spoken_in notes) j).layouts < 40 = subst (λ (x : Spoken). length x.layouts < 40) (sym (view_spoken notes j)) (values_few j k h) in
        noted_by (λ (x : Spoken). length x.layouts ≤ 40) n (λ j. mem j heard) said (map spoken_in notes) j (omega arith)
        (omega (arith, word_length (mem j heard) (spoken_by (map spoken_in notes) j) (said j)))

    -- they say what the rule's notes say
    pub noted_view : map spoken_in (notes_over (λ j. mem j heard) notes next) ≡ next
    unfolding spoken_by
    noted_view =
        let twenty : length (map spoken_in (notes_over (λ j. mem j heard) notes next)) ≡ 20 =
        length-map (notes_over (λ j. mem j heard) notes next) spoken_in ∙ over_length (λ j. mem j heard) notes next in
        ext_get_or nothing_said (map spoken_in (notes_over (λ j. mem j heard) notes next)) next
        (twenty ∙ sym (noted_length n (λ j. mem j heard) said (map spoken_in notes) ∙ length-map notes spoken_in ∙ whole.twenty))
        (λ j l. same j (subst (λ (m : ℕ). j < m) twenty l))
      where
        same : (j : ℕ) → j < 20 → spoken_by (map spoken_in (notes_over (λ j. mem j heard) notes next)) j ≡ spoken_by next j
        same j k =
            view_spoken (notes_over (λ j. mem j heard) notes next) j
            ∙ ⊎_elim
            (λ h. ap spoken_in (over_heard (λ j. mem j heard) notes next j k h) ∙ written_says (note_of notes j) (whole.forty j k) (spoken_by next j) (next_few j k h))
            (λ h.
            ap spoken_in (over_unheard (λ j. mem j heard) notes next j k h) ∙ sym (view_spoken notes j)
            ∙ sym (noted_unheard n (λ j. mem j heard) said (map spoken_in notes) j h))
            (decide (mem j heard))

    -- and there is a place for each value
    pub noted_fits : HavePlaces heard (notes_over (λ j. mem j heard) notes next)
    unfolding written_over
    noted_fits j h =
        ⊎_elim
        (λ k.
        let e : (note_of (notes_over (λ j. mem j heard) notes next) j).count ≡ length (spoken_by next j).layouts =
        ap (λ (m : Note). m.count) (over_heard (λ j. mem j heard) notes next j k h) in
        let l = next_few j k h in omega arith)
        (λ k.
        let e : (note_of (notes_over (λ j. mem j heard) notes next) j).count ≡ 0 =
        ap (λ (m : Note). m.count)
        (get_or-eq_default (notes_over (λ j. mem j heard) notes next) (record { edition = 0; count = 0; values = [] }) (let t = over_length (λ j. mem j heard) notes next in omega arith)) in
        omega arith)
        (below_or_not j 20)

-- ---- the round of a record: it is raised, it notes, and all but the source decide

module _ (n source : ℕ) (bound : Bound) (own heard : ℕ) (said : ℕ → ℕ) (before : Record) (whole : Whole before.notes) (room : HaveRoom heard before.notes) where
  abbrev notes_after : List Note
  notes_after = notes_over (λ j. mem j heard) before.notes (noted n (λ j. mem j heard) said (map spoken_in before.notes))

  pub other_shown : (own ≡ source → ⊥) → (r : Record)
      → r ≡ record {
        state = taking (before.round + 1) before.state (chosen n source bound heard (map spoken_in notes_after) (held_by before.state));
        round = before.round + 1;
        notes = notes_after;
      }
      → r ≡ shown_over (λ j. mem j heard) before (step n source bound own heard said (view_of before))
  unfolding shown_over step view_of
  other_shown z r e =
      e
      ∙ ap
      (λ (values : List Spoken).
      record { state = taking (before.round + 1) before.state (chosen n source bound heard values (held_by before.state)); round = before.round + 1; notes = notes_after })
      (noted_view heard before.notes whole room n said)
      ∙ ap (λ (s : State). record { state = s; round = before.round + 1; notes = notes_after }) (sym (pick_no _ _ _ (ne_eqb own source z)))

  pub source_shown : own ≡ source → (r : Record) → r ≡ record { state = before.state; round = before.round + 1; notes = notes_after }
      → r ≡ shown_over (λ j. mem j heard) before (step n source bound own heard said (view_of before))
  unfolding shown_over step view_of
  source_shown z r e =
      e ∙ ap (λ (s : State). record { state = s; round = before.round + 1; notes = notes_after }) (sym (pick_yes _ _ _ (eq-eqb own source z)))
