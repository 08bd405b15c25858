-- The code's record and the rule's: what a note says, what is written over it, and that a record of the rule with at most forty layouts a neighbour is the
-- one that is shown. Assumes nothing.
use Prim.Native.Nat.{ℕ, suc, ◌+◌, ◌≤◌, ◌<◌}
use mathlib.Core.Path.{◌≡◌, refl, sym, ap, ◌∙◌, subst}
use mathlib.Core.Logic.{⊎_elim}
use mathlib.Core.Bool.{Bool, true, false}
use mathlib.Core.List.{List, [], ◌∷◌, ◌++◌, map}
use native.Mathlib.Nat.{zero-add}
use native.Mathlib.Numerals.{add-one}
use native.Mathlib.Omega.{arith}
use lib.Dec.{eqb}
use lib.ListN.{length, take, drop, set, replicate, length-append, length-map, length-replicate, get_or-replicate, get_or-map, take-append-drop}
use borrow.Author.Tests.{eq-eqb, ne_eqb}
use lib.Seq.{sets, sets-eq, length-sets, length-take-le, take-append_seam, drop-append-add, drop-drop, set_split, ext_get_or}
use Rattle.sets.specs.Tests.{pick}
use Rattle.sets.specs.Tables.{table}
use Rattle.sets.proofs.Bools.{decide, pick_yes, pick_no, pick_case}
use Rattle.sets.proofs.Laws.{equal_or_not}
use Rattle.sets.proofs.Tables.{table_length, table_at, table_is}
use Rattle.quorum.specs.Notice.{edition_of, layout_of}
use Rattle.terminal.specs.declared.State.{State}
use Rattle.terminal.specs.declared.Note.{Note}
use Rattle.terminal.specs.declared.Record.{Record}
use Rattle.terminal.specs.Rule.{Spoken, nothing_said, View, spoken_by, in_edition, with_new, values_of}
use Rattle.terminal.specs.Shown.{note_of, values_in, spoken_in, Whole, view_of, written_over, no_note, notes_over, shown_over, shown}
use Rattle.terminal.proofs.Values.{in_own, in_other}

-- ---- values over places

-- values written at the first places: they, and then what was there
pub over_is : (l values : List ℕ) → length values ≤ length l → sets l 0 values ≡ values ++ drop (length values) l
over_is l values h = sets-eq values l 0 (omega arith) ∙ ap (λ (k : ℕ). values ++ drop k l) (zero-add (length values))

-- what is written over values that are no more is as if they had not been there
pub over_over : (l a b : List ℕ) → length a ≤ length b → length b ≤ length l → sets (sets l 0 a) 0 b ≡ sets l 0 b
over_over l a b h k =
    over_is (sets l 0 a) b (let e = length-sets l 0 a in omega arith)
    ∙ ap (λ (r : List ℕ). b ++ drop (length b) r) (over_is l a (omega arith))
    ∙ ap (λ (r : List ℕ). b ++ r) past
    ∙ sym (over_is l b k)
  where
    rest : (m : ℕ) → length a + m ≡ length b → drop (length b) (a ++ drop (length a) l) ≡ drop (length b) l
    rest m e =
        ap (λ (n : ℕ). drop n (a ++ drop (length a) l)) (sym e) ∙ drop-append-add a (drop (length a) l) m ∙ drop-drop m (length a) l
        ∙ ap (λ (n : ℕ). drop n l) e

    past : drop (length b) (a ++ drop (length a) l) ≡ drop (length b) l
    past = rest (Prim.Native.Nat.◌-◌ (length b) (length a)) (omega arith)

-- ---- one note

-- the places that something is written over: the note's where the edition is, else zeros
abbrev under : Note → ℕ → List ℕ
under note edition = pick (eqb note.edition edition) note.values (replicate 40 0)

under_same : (note : Note) (edition : ℕ) → note.edition ≡ edition → under note edition ≡ note.values
under_same note edition e = pick_yes _ _ _ (eq-eqb note.edition edition e)

under_other : (note : Note) (edition : ℕ) → (note.edition ≡ edition → ⊥) → under note edition ≡ replicate 40 0
under_other note edition n = pick_no _ _ _ (ne_eqb note.edition edition n)

under_forty : (note : Note) (edition : ℕ) → length note.values ≡ 40 → length (under note edition) ≡ 40
under_forty note edition l =
    pick_case (λ (v : List ℕ). length v ≡ 40) (eqb note.edition edition) note.values (replicate 40 0) (λ t. l) (λ t. length-replicate {A = ℕ} 40 0)

module _ (note : Note) (forty : length note.values ≡ 40) where
  pub values_length : note.count ≤ 40 → length (values_in note) ≡ note.count
  unfolding values_in
  values_length h = length-take-le note.count note.values (omega arith)

  -- what is written is what the note then says
  pub written_says : (spoken : Spoken) → length spoken.layouts ≤ 40 → spoken_in (written_over note spoken) ≡ spoken
  unfolding spoken_in values_in written_over
  written_says spoken h =
      let l = under_forty note spoken.edition forty in
      let e : take (length spoken.layouts) (sets (under note spoken.edition) 0 spoken.layouts) ≡ spoken.layouts =
      ap (take (length spoken.layouts)) (over_is (under note spoken.edition) spoken.layouts (omega arith))
      ∙ take-append_seam spoken.layouts (drop (length spoken.layouts) (under note spoken.edition)) in
      (λ i. record { edition = spoken.edition; layouts = e i })

  -- its own layouts change nothing
  own_values : note.count ≤ 40 → sets note.values 0 (values_in note) ≡ note.values
  unfolding values_in
  own_values h =
      let l : length (take note.count note.values) ≡ note.count = length-take-le note.count note.values (omega arith) in
      over_is note.values (take note.count note.values) (omega arith)
      ∙ ap (λ (k : ℕ). take note.count note.values ++ drop k note.values) l
      ∙ take-append-drop note.count note.values

  pub written_self : note.count ≤ 40 → written_over note (spoken_in note) ≡ note
  unfolding written_over spoken_in
  written_self h =
      let l : length (values_in note) ≡ note.count = values_length h in
      let e : sets (under note note.edition) 0 (values_in note) ≡ note.values = ap (λ (v : List ℕ). sets v 0 (values_in note)) (under_same note note.edition refl) ∙ own_values h in
      (λ i. record { edition = note.edition; count = l i; values = e i })

  -- a new layout in its edition changes the count and one place
  word_values : (w : ℕ) → note.count < 40 → sets note.values 0 (values_in note ++ (w ∷ [])) ≡ set note.values note.count w
  unfolding values_in
  word_values w h =
      let l : length (take note.count note.values) ≡ note.count = length-take-le note.count note.values (omega arith) in
      let m : length (take note.count note.values ++ (w ∷ [])) ≡ note.count + 1 = length-append (take note.count note.values) (w ∷ []) ∙ omega arith in
      over_is note.values (take note.count note.values ++ (w ∷ [])) (omega arith)
      ∙ ap (λ (k : ℕ). (take note.count note.values ++ (w ∷ [])) ++ drop k note.values) (m ∙ add-one note.count)
      ∙ mathlib.Core.List.append_assoc (take note.count note.values) (w ∷ []) (drop (suc note.count) note.values)
      ∙ sym (set_split note.values note.count w (omega arith))

  pub written_word : (said : ℕ) → note.count < 40 → note.edition ≡ edition_of said
      → written_over note (with_new (spoken_in note) said)
      ≡ record { edition = note.edition; count = note.count + 1; values = set note.values note.count (layout_of said) }
  unfolding written_over with_new spoken_in
  written_word said h e =
      let own : in_edition (edition_of said) (spoken_in note) ≡ values_in note = in_own (edition_of said) (spoken_in note) e in
      let l : length (values_in note) ≡ note.count = values_length (omega arith) in
      let m : length (in_edition (edition_of said) (spoken_in note) ++ (layout_of said ∷ [])) ≡ note.count + 1 =
      length-append (in_edition (edition_of said) (spoken_in note)) (layout_of said ∷ []) ∙ ap (λ (v : List ℕ). length v + 1) own ∙ omega arith in
      let v : sets (under note (edition_of said)) 0 (in_edition (edition_of said) (spoken_in note) ++ (layout_of said ∷ [])) ≡ set note.values note.count (layout_of said) =
      (λ i. sets (under_same note (edition_of said) e i) 0 (own i ++ (layout_of said ∷ []))) ∙ word_values (layout_of said) h in
      (λ i. record { edition = sym e i; count = m i; values = v i })

  -- another edition takes the whole note
  pub written_wipe : (said : ℕ) → (note.edition ≡ edition_of said → ⊥)
      → written_over note (with_new (spoken_in note) said) ≡ record { edition = edition_of said; count = 1; values = set (replicate 40 0) 0 (layout_of said) }
  unfolding written_over with_new spoken_in
  written_wipe said n =
      let none : in_edition (edition_of said) (spoken_in note) ≡ [] = in_other (edition_of said) (spoken_in note) n in
      let m : length (in_edition (edition_of said) (spoken_in note) ++ (layout_of said ∷ [])) ≡ 1 = ap (λ (v : List ℕ). length (v ++ (layout_of said ∷ []))) none in
      let v : sets (under note (edition_of said)) 0 (in_edition (edition_of said) (spoken_in note) ++ (layout_of said ∷ [])) ≡ set (replicate 40 0) 0 (layout_of said) =
      (λ i. sets (under_other note (edition_of said) n i) 0 (none i ++ (layout_of said ∷ []))) in
      (λ i. record { edition = edition_of said; count = m i; values = v i })

pub written_length : (note : Note) (spoken : Spoken) → length note.values ≡ 40 → length (written_over note spoken).values ≡ 40
unfolding written_over
written_length note spoken l = length-sets (under note spoken.edition) 0 spoken.layouts ∙ under_forty note spoken.edition l

-- ---- the notes

-- what is said by the note of terminal j
pub view_values : (notes : List Note) (j : ℕ) → values_of (map values_in notes) j ≡ values_in (note_of notes j)
unfolding values_of values_in
view_values notes j = get_or-map values_in notes j (record { edition = 0; count = 0; values = [] })

pub view_spoken : (notes : List Note) (j : ℕ) → spoken_by (map spoken_in notes) j ≡ spoken_in (note_of notes j)
unfolding spoken_by spoken_in values_in
view_spoken notes j = get_or-map spoken_in notes j (record { edition = 0; count = 0; values = [] })

pub over_at : (heard : ℕ → Bool) (before : List Note) (notes : List Spoken) (j : ℕ) → j < 20
    → note_of (notes_over heard before notes) j ≡ pick (heard j) (written_over (note_of before j) (spoken_by notes j)) (note_of before j)
unfolding notes_over
over_at heard before notes j k = table_at 20 _ _ j k

pub over_heard : (heard : ℕ → Bool) (before : List Note) (notes : List Spoken) (j : ℕ) → j < 20 → heard j ≡ true
    → note_of (notes_over heard before notes) j ≡ written_over (note_of before j) (spoken_by notes j)
over_heard heard before notes j k h = over_at heard before notes j k ∙ pick_yes _ _ _ h

pub over_unheard : (heard : ℕ → Bool) (before : List Note) (notes : List Spoken) (j : ℕ) → j < 20 → heard j ≡ false
    → note_of (notes_over heard before notes) j ≡ note_of before j
over_unheard heard before notes j k h = over_at heard before notes j k ∙ pick_no _ _ _ h

pub over_length : (heard : ℕ → Bool) (before : List Note) (notes : List Spoken) → length (notes_over heard before notes) ≡ 20
unfolding notes_over
over_length heard before notes = table_length 20 _

-- twenty notes that agree with them are the notes over others
pub over_by : (heard : ℕ → Bool) (before : List Note) (notes : List Spoken) (l : List Note) → length l ≡ 20
    → ((j : ℕ) → j < 20 → note_of l j ≡ pick (heard j) (written_over (note_of before j) (spoken_by notes j)) (note_of before j))
    → l ≡ notes_over heard before notes
unfolding notes_over
over_by heard before notes l e f = table_is 20 _ _ l e f

-- twenty notes are whole again
pub over_whole : (heard : ℕ → Bool) (before : List Note) (notes : List Spoken) → Whole before → Whole (notes_over heard before notes)
over_whole heard before notes w = record {
  twenty = over_length heard before notes;
  forty = λ j k.
      ⊎_elim (λ h. ap (λ (x : Note). length x.values) (over_heard heard before notes j k h) ∙ written_length (note_of before j) (spoken_by notes j) (w.forty j k))
      (λ h. ap (λ (x : Note). length x.values) (over_unheard heard before notes j k h) ∙ w.forty j k)
      (decide (heard j));
}

pub over_state : (heard : ℕ → Bool) (before : Record) (x : View) → (shown_over heard before x).state ≡ x.state
unfolding shown_over
over_state heard before x = refl

pub over_round : (heard : ℕ → Bool) (before : Record) (x : View) → (shown_over heard before x).round ≡ x.round
unfolding shown_over
over_round heard before x = refl

-- ---- a record that is shown

none_at : (j : ℕ) → j < 20 → note_of (replicate 20 no_note) j ≡ no_note
none_at j k = get_or-replicate 20 j no_note _ k

-- nothing heard is shown as nothing noted
pub shown_nothing : (state : State)
    → ◌≡◌ {A = Record} (record { state = state; round = 0; notes = replicate 20 no_note }) (shown (record { state = state; round = 0; notes = replicate 20 nothing_said }))
unfolding shown shown_over notes_over table pick written_over spoken_by
shown_nothing state = refl

pub shown_state : (x : View) → (shown x).state ≡ x.state
unfolding shown shown_over
shown_state x = refl

pub shown_round : (x : View) → (shown x).round ≡ x.round
unfolding shown shown_over
shown_round x = refl

pub shown_note : (x : View) (j : ℕ) → j < 20 → note_of (shown x).notes j ≡ written_over no_note (spoken_by x.notes j)
unfolding shown shown_over
shown_note x j k =
    over_heard (λ j. true) (replicate 20 no_note) x.notes j k refl ∙ ap (λ (m : Note). written_over m (spoken_by x.notes j)) (none_at j k)

forty_zeros : length no_note.values ≡ 40
forty_zeros = length-replicate {A = ℕ} 40 0

pub shown_whole : (x : View) → Whole (shown x).notes
unfolding shown shown_over
shown_whole x =
    over_whole (λ j. true) (replicate 20 no_note) x.notes
    (record { twenty = length-replicate 20 no_note; forty = λ j k. ap (λ (m : Note). length m.values) (none_at j k) ∙ forty_zeros })

pub shown_count : (x : View) (j : ℕ) → j < 20 → (note_of (shown x).notes j).count ≡ length (spoken_by x.notes j).layouts
unfolding written_over
shown_count x j k = ap (λ (m : Note). m.count) (shown_note x j k)

-- from nothing, whatever the edition is
from_none : (spoken : Spoken) → (written_over no_note spoken).values ≡ sets (replicate 40 0) 0 spoken.layouts
unfolding written_over
from_none spoken =
    pick_case (λ (v : List ℕ). sets v 0 spoken.layouts ≡ sets (replicate 40 0) 0 spoken.layouts) (eqb 0 spoken.edition) (replicate 40 0) (replicate 40 0)
    (λ t. refl) (λ t. refl)

-- written over another edition, or over layouts that are no more
again : (a b : Spoken) → (a.edition ≡ b.edition → length a.layouts ≤ length b.layouts) → length b.layouts ≤ 40
    → written_over (written_over no_note a) b ≡ written_over no_note b
unfolding written_over
again a b h k = (λ i. record { edition = b.edition; count = length b.layouts; values = both i })
  where
    both : (written_over (written_over no_note a) b).values ≡ (written_over no_note b).values
    both =
        ⊎_elim
        (λ e.
        ap (λ (v : List ℕ). sets v 0 b.layouts) (under_same (written_over no_note a) b.edition e ∙ from_none a)
        ∙ over_over (replicate 40 0) a.layouts b.layouts (h e) (let l = forty_zeros in omega arith) ∙ sym (from_none b))
        (λ n. ap (λ (v : List ℕ). sets v 0 b.layouts) (under_other (written_over no_note a) b.edition n) ∙ sym (from_none b))
        (equal_or_not a.edition b.edition)

module _ (x : View) (room : length x.notes ≡ 20) (few : (j : ℕ) → length (spoken_by x.notes j).layouts ≤ 40) where
  -- what is shown says what the rule's record says
  pub view_shown : view_of (shown x) ≡ x
  unfolding view_of spoken_by
  view_shown = (λ i. record { state = shown_state x i; round = shown_round x i; notes = same i })
    where
      same : map spoken_in (shown x).notes ≡ x.notes
      same =
          ext_get_or nothing_said (map spoken_in (shown x).notes) x.notes (length-map (shown x).notes spoken_in ∙ (shown_whole x).twenty ∙ sym room)
          (λ j k.
          let l : j < 20 = subst (λ (m : ℕ). j < m) (length-map (shown x).notes spoken_in ∙ (shown_whole x).twenty) k in
          view_spoken (shown x).notes j ∙ ap spoken_in (shown_note x j l) ∙ written_says no_note forty_zeros (spoken_by x.notes j) (few j))

  -- what is shown in the place of what is shown
  pub shown_over_lem : (heard : ℕ → Bool) (y : View) → ((j : ℕ) → heard j ≡ false → spoken_by y.notes j ≡ spoken_by x.notes j)
      → ((j : ℕ) → (spoken_by x.notes j).edition ≡ (spoken_by y.notes j).edition → length (spoken_by x.notes j).layouts ≤ length (spoken_by y.notes j).layouts)
      → ((j : ℕ) → length (spoken_by y.notes j).layouts ≤ 40)
      → shown_over heard (shown x) y ≡ shown y
  unfolding shown_over shown
  shown_over_lem heard y unheard longer fits = (λ i. record { state = y.state; round = y.round; notes = same i })
    where
      row : (j : ℕ) → j < 20 → note_of (shown y).notes j ≡ pick (heard j) (written_over (note_of (shown x).notes j) (spoken_by y.notes j)) (note_of (shown x).notes j)
      row j k =
          shown_note y j k
          ∙ ⊎_elim
          (λ h.
          sym (again (spoken_by x.notes j) (spoken_by y.notes j) (longer j) (fits j))
          ∙ ap (λ (m : Note). written_over m (spoken_by y.notes j)) (sym (shown_note x j k))
          ∙ sym (pick_yes _ _ _ h))
          (λ h. ap (written_over no_note) (unheard j h) ∙ sym (shown_note x j k) ∙ sym (pick_no _ _ _ h))
          (decide (heard j))

      same : notes_over heard (shown x).notes y.notes ≡ (shown y).notes
      same = sym (over_by heard (shown x).notes y.notes (shown y).notes (shown_whole y).twenty row)
