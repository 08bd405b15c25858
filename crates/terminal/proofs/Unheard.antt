-- What a terminal does not hear, and what stands after a note's count, is neither looked at nor changed by its step. Assumes nothing.
use Prim.Native.Nat.{ℕ, zero, suc, ◌+◌, ◌≤◌, ◌<◌}
use mathlib.Core.Path.{◌≡◌, refl, sym, ap, ◌∙◌, subst, fun_ext}
use mathlib.Core.Logic.{⊎_elim}
use mathlib.Core.Bool.{Bool, true, false, not}
use mathlib.Core.List.{List, [], ◌∷◌, map}
use native.Mathlib.Omega.{arith}
use lib.Dec.{eqb, ltb, leb}
use lib.ListN.{length, get_or, set, replicate, length-map, length-replicate, get_or-replicate, get_or-eq_default}
use lib.Seq.{get_or-set_other}
use borrow.Author.Tests.{eqb-true, eq-eqb}
use Rattle.sets.specs.Tests.{◌and◌, ◌implies◌, pick}
use Rattle.sets.specs.Causes.{◌gives◌, first_cause}
use Rattle.sets.specs.Sets.{mem}
use Rattle.quorum.specs.declared.Bound.{Bound}
use Rattle.quorum.specs.Quorum.{in_range, others, groups_sound}
use Rattle.quorum.specs.Notice.{notice_of, edition_of, layout_of}
use Rattle.sets.proofs.Bools.{clash, decide, and_no_l, implies_i, pick_yes, pick_no, pick_case}
use Rattle.sets.proofs.Laws.{equal_or_not, below_or_not, all_cong}
use Rattle.terminal.specs.declared.State.{State}
use Rattle.terminal.specs.declared.Note.{Note}
use Rattle.terminal.specs.declared.Record.{Record}
use Rattle.terminal.specs.Rule.{Spoken, View, spoken_by, in_edition, with_word, noted, layout_in, qualifying, highest, newest, chosen, held_by, taking, step}
use Rattle.terminal.specs.Shown.{note_of, values_in, spoken_in, Whole, view_of, written_over, shown_over}
use Rattle.terminal.specs.Answer.{state_sound, counts_sound, record_sound, cause_of, record_after}
use Rattle.terminal.specs.Unheard.{SameHeard, SameRecord, UnheardIgnored}
use Rattle.terminal.proofs.Values.{word_by, word_length}
use Rattle.terminal.proofs.Notes.{noted_length}
use Rattle.terminal.proofs.Shown.{values_length, written_says, written_self, written_word, written_wipe, view_spoken, over_heard, over_unheard, over_state, over_round}
use Rattle.terminal.proofs.Laws.{step_by}
use Rattle.terminal.proofs.Newest.{edition_values}
use Rattle.terminal.proofs.Editions.{told, choice_agrees}
use Rattle.terminal.proofs.Walks.{accepted_plays}

-- ---- the rule: two records that have the same of every heard neighbour

pub record SameView (heard : ℕ) (a b : View) : Type 0 where
  pub state : a.state ≡ b.state
  pub round : a.round ≡ b.round
  pub long : length a.notes ≡ length b.notes
  pub spoken : (j : ℕ) → mem j heard ≡ true → spoken_by a.notes j ≡ spoken_by b.notes j

-- the notes after a round, place by place: both lists go down together
noted_same : (n : ℕ) (hears : ℕ → Bool) (said other : ℕ → ℕ) (a b : List Spoken) → length a ≡ length b
    → ((j : ℕ) → hears j ≡ true → spoken_by a j ≡ spoken_by b j) → ((j : ℕ) → hears j ≡ true → said j ≡ other j)
    → (j : ℕ) → hears j ≡ true → spoken_by (noted n hears said a) j ≡ spoken_by (noted n hears other b) j
unfolding noted spoken_by
noted_same zero hears said other a b l e s j h = e j h
noted_same (suc n) hears said other [] [] l e s j h = refl
noted_same (suc n) hears said other [] (y ∷ b) l e s j h = absurd (omega arith)
noted_same (suc n) hears said other (x ∷ a) [] l e s j h = absurd (omega arith)
noted_same (suc n) hears said other (x ∷ a) (y ∷ b) l e s zero h = (λ i. with_word (hears 0) (e 0 h i) (s 0 h i))
noted_same (suc n) hears said other (x ∷ a) (y ∷ b) l e s (suc j) h =
    noted_same n (λ j. hears (suc j)) (λ j. said (suc j)) (λ j. other (suc j)) a b (omega arith) (λ j. e (suc j)) (λ j. s (suc j)) j h

module _ (n source : ℕ) (bound : Bound) (heard : ℕ) (a b : List Spoken) (e : (j : ℕ) → mem j heard ≡ true → spoken_by a j ≡ spoken_by b j) where
  told_same : (edition j : ℕ) → told heard (map (in_edition edition) a) j ≡ told heard (map (in_edition edition) b) j
  told_same edition j =
      ⊎_elim
      (λ m. ap (λ (l : List ℕ). pick (mem j heard) l []) (edition_values edition a j ∙ ap (in_edition edition) (e j m) ∙ sym (edition_values edition b j)))
      (λ m. pick_no _ _ _ m ∙ sym (pick_no _ _ _ m))
      (decide (mem j heard))

  layout_same : (edition : ℕ) → layout_in n source bound heard a edition ≡ layout_in n source bound heard b edition
  unfolding layout_in
  layout_same edition =
      choice_agrees n source bound heard heard (map (in_edition edition) a) (map (in_edition edition) b) (told_same edition source) (λ j k. told_same edition j)

  qualifying_same : (held j : ℕ) → qualifying n source bound heard a held j ≡ qualifying n source bound heard b held j
  unfolding qualifying
  qualifying_same held j =
      ⊎_elim
      (λ m.
      (λ i. pick (mem j heard and ltb held (e j m i).edition and not (eqb (fun_ext layout_same i (e j m i).edition) 0)) (e j m i).edition 0))
      (λ m. pick_no _ _ _ (and_no_l _ _ m) ∙ sym (pick_no _ _ _ (and_no_l _ _ m)))
      (decide (mem j heard))

  chosen_same : (held : ℕ) → chosen n source bound heard a held ≡ chosen n source bound heard b held
  unfolding chosen newest
  chosen_same held =
      (λ i.
      pick (eqb (highest n (fun_ext (qualifying_same held) i)) 0) 0
      (notice_of (highest n (fun_ext (qualifying_same held) i)) (fun_ext layout_same i (highest n (fun_ext (qualifying_same held) i)))))

module _ (n source : ℕ) (bound : Bound) (own heard : ℕ) (said other : ℕ → ℕ) (s : (j : ℕ) → mem j heard ≡ true → said j ≡ other j) where
  pub step_view : (a b : View) → SameView heard a b → SameView heard (step n source bound own heard said a) (step n source bound own heard other b)
  unfolding step
  step_view a b e =
      let spoken = noted_same n (λ j. mem j heard) said other a.notes b.notes e.long e.spoken s in record {
        state =
            (λ i.
            pick (eqb own source) (e.state i)
            (taking (e.round i + 1) (e.state i)
            (chosen_same n source bound heard (noted n (λ j. mem j heard) said a.notes) (noted n (λ j. mem j heard) other b.notes) spoken (held_by a.state) i)))
            ∙ ap
            (λ (x : State).
            pick (eqb own source) b.state
            (taking (b.round + 1) b.state (chosen n source bound heard (noted n (λ j. mem j heard) other b.notes) (held_by x)))) e.state;
        round = ap (λ (k : ℕ). k + 1) e.round;
        long = noted_length n (λ j. mem j heard) said a.notes ∙ e.long ∙ sym (noted_length n (λ j. mem j heard) other b.notes);
        spoken = spoken;
      }

-- ---- the code's records

-- what is said by two notes with the same edition and the same layouts is the same
spoken_same : (a b : Note) → a.edition ≡ b.edition → values_in a ≡ values_in b → spoken_in a ≡ spoken_in b
unfolding spoken_in
spoken_same a b e v = (λ i. record { edition = e i; layouts = v i })

view_same : (heard : ℕ) (a b : Record) → Whole a.notes → Whole b.notes → SameRecord heard a b → SameView heard (view_of a) (view_of b)
unfolding view_of
view_same heard a b wa wb e = record {
  state = e.state;
  round = e.round;
  long = length-map a.notes spoken_in ∙ wa.twenty ∙ sym wb.twenty ∙ sym (length-map b.notes spoken_in);
  spoken = λ j h.
      view_spoken a.notes j
      ∙ ⊎_elim (λ k. spoken_same (note_of a.notes j) (note_of b.notes j) (e.editions j k h) (e.values j k h))
      (λ k.
      ap spoken_in (get_or-eq_default a.notes (record { edition = 0; count = 0; values = [] }) (let t = wa.twenty in omega arith))
      ∙ sym (ap spoken_in (get_or-eq_default b.notes (record { edition = 0; count = 0; values = [] }) (let t = wb.twenty in omega arith))))
      (below_or_not j 20)
      ∙ sym (view_spoken b.notes j);
}

module _ (n source : ℕ) (bound : Bound) (own heard : ℕ) where
  -- where the step is accepted, the values of a heard neighbour that it leaves find room
  module _ (a : Record) (whole : Whole a.notes) (said : List ℕ) (accepted : cause_of n source bound own heard a (length said) ≡ 0) where
    abbrev after : View
    after = step n source bound own heard (λ j. get_or said j 0) (view_of a)

    small : (j : ℕ) → mem j heard ≡ true → (note_of a.notes j).count < 40
    small = (accepted_plays n source bound own heard a (length said) accepted).4

    after_few : (j : ℕ) → j < 20 → mem j heard ≡ true → length (spoken_by after.notes j).layouts ≤ 40
    unfolding view_of spoken_in
    after_few j k h =
        let c : (note_of a.notes j).count < 40 = small j h in
        let l : length (values_in (note_of a.notes j)) ≡ (note_of a.notes j).count = values_length (note_of a.notes j) (whole.forty j k) (omega arith) in
        let e : length (spoken_by (map spoken_in a.notes) j).layouts ≡ length (values_in (note_of a.notes j)) = ap (λ (x : Spoken). length x.layouts) (view_spoken a.notes j) in
        step_by n source bound own heard (λ j. get_or said j 0) (λ (x : Spoken). length x.layouts ≤ 40) (view_of a) j (omega arith)
        (omega (arith, word_length (mem j heard) (spoken_by (map spoken_in a.notes) j) (get_or said j 0)))

    over_spoken : (j : ℕ) → j < 20 → mem j heard ≡ true → note_of (shown_over (λ j. mem j heard) a after).notes j ≡ written_over (note_of a.notes j) (spoken_by after.notes j)
    unfolding shown_over
    over_spoken j k h = over_heard (λ j. mem j heard) a.notes after.notes j k h

    after_count : (j : ℕ) → j < 20 → mem j heard ≡ true
        → (note_of (shown_over (λ j. mem j heard) a after).notes j).count ≡ length (spoken_by after.notes j).layouts
    unfolding written_over
    after_count j k h = ap (λ (m : Note). m.count) (over_spoken j k h)

    -- what the record then says of a heard neighbour is what the rule says
    pub after_spoken : (j : ℕ) → j < 20 → mem j heard ≡ true → spoken_in (note_of (shown_over (λ j. mem j heard) a after).notes j) ≡ spoken_by after.notes j
    after_spoken j k h =
        ap spoken_in (over_spoken j k h) ∙ written_says (note_of a.notes j) (whole.forty j k) (spoken_by after.notes j) (after_few j k h)

    -- of its note nothing changes, or a new word is written: the place after its layouts, or the whole note where the edition is another
    after_note {ℓ} : (Q : Note → Type ℓ) (j : ℕ) → j < 20 → mem j heard ≡ true → Q (note_of a.notes j)
        → ((note_of a.notes j).edition ≡ edition_of (get_or said j 0)
        → Q (record { edition = (note_of a.notes j).edition; count = (note_of a.notes j).count + 1; values = set (note_of a.notes j).values (note_of a.notes j).count (layout_of (get_or said j 0)) }))
        → (((note_of a.notes j).edition ≡ edition_of (get_or said j 0) → ⊥)
        → Q (record { edition = edition_of (get_or said j 0); count = 1; values = set (replicate 40 0) 0 (layout_of (get_or said j 0)) }))
        → Q (written_over (note_of a.notes j) (spoken_by after.notes j))
    unfolding view_of
    after_note Q j k h stays more wipes =
        let c : (note_of a.notes j).count < 40 = small j h in
        let self : Q (written_over (note_of a.notes j) (spoken_in (note_of a.notes j))) = subst Q (sym (written_self (note_of a.notes j) (whole.forty j k) (omega arith))) stays in
        step_by n source bound own heard (λ j. get_or said j 0) (λ (x : Spoken). Q (written_over (note_of a.notes j) x)) (view_of a) j
        (subst (λ (x : Spoken). Q (written_over (note_of a.notes j) x)) (sym (view_spoken a.notes j)) self)
        (subst (λ (x : Spoken). Q (written_over (note_of a.notes j) (with_word (mem j heard) x (get_or said j 0)))) (sym (view_spoken a.notes j))
        (word_by (λ (x : Spoken). Q (written_over (note_of a.notes j) x)) (mem j heard) (spoken_in (note_of a.notes j)) (get_or said j 0) self
        (λ t.
        ⊎_elim (λ e. subst Q (sym (written_word (note_of a.notes j) (whole.forty j k) (get_or said j 0) c e)) (more e))
        (λ z. subst Q (sym (written_wipe (note_of a.notes j) (whole.forty j k) (get_or said j 0) z)) (wipes z))
        (equal_or_not (note_of a.notes j).edition (edition_of (get_or said j 0))))))

  counts_same : (a b : Record) → SameRecord heard a b → counts_sound heard a.notes a.round ≡ counts_sound heard b.notes b.round
  unfolding counts_sound
  counts_same a b e =
      all_cong 20 (λ j. mem j heard implies leb (note_of a.notes j).count a.round) (λ j. mem j heard implies leb (note_of b.notes j).count b.round)
      (λ j k.
      ⊎_elim (λ m. (λ i. mem j heard implies leb (e.counts j k m i) (e.round i)))
      (λ m. implies_i _ _ (λ t. clash t m) ∙ sym (implies_i _ _ (λ t. clash t m)))
      (decide (mem j heard)))

  number_same : (a b : Record) → SameRecord heard a b → (said other : List ℕ) → SameHeard heard said other
      → cause_of n source bound own heard a (length said) ≡ cause_of n source bound own heard b (length other)
  unfolding cause_of record_sound
  number_same a b e said other s =
      (λ i.
      first_cause (
      not (in_range n source bound.kind) gives 4
      ∷ not (others n own heard) gives 5
      ∷ not (groups_sound n source bound) gives 17
      ∷ not (ltb (e.round i) 40 and ltb own n and state_sound (e.state i) (eqb own source) (e.round i) and counts_same a b e i) gives 13
      ∷ not (eqb (s.long i) n) gives 12
      ∷ []
      ))

  shown_same : (a b : Record) → Whole a.notes → Whole b.notes → SameRecord heard a b → (said other : List ℕ) → SameHeard heard said other
      → cause_of n source bound own heard a (length said) ≡ 0 → cause_of n source bound own heard b (length other) ≡ 0
      → SameRecord heard (shown_over (λ j. mem j heard) a (step n source bound own heard (λ j. get_or said j 0) (view_of a)))
      (shown_over (λ j. mem j heard) b (step n source bound own heard (λ j. get_or other j 0) (view_of b)))
  unfolding spoken_in
  shown_same a b wa wb e said other s ca cb =
      let v = step_view n source bound own heard (λ j. get_or said j 0) (λ j. get_or other j 0) s.entries (view_of a) (view_of b) (view_same heard a b wa wb e) in record {
        state = shown_st a said ∙ v.state ∙ sym (shown_st b other);
        round = shown_rd a said ∙ v.round ∙ sym (shown_rd b other);
        editions = λ j k h. ap (λ (x : Spoken). x.edition) (both v j k h);
        counts = λ j k h. after_count a wa said ca j k h ∙ ap (λ (x : Spoken). length x.layouts) (v.spoken j h) ∙ sym (after_count b wb other cb j k h);
        values = λ j k h. ap (λ (x : Spoken). x.layouts) (both v j k h);
      }
    where
      both : SameView heard (step n source bound own heard (λ j. get_or said j 0) (view_of a)) (step n source bound own heard (λ j. get_or other j 0) (view_of b)) → (j : ℕ) → j < 20 → mem j heard ≡ true
          → spoken_in (note_of (shown_over (λ j. mem j heard) a (step n source bound own heard (λ j. get_or said j 0) (view_of a))).notes j)
          ≡ spoken_in (note_of (shown_over (λ j. mem j heard) b (step n source bound own heard (λ j. get_or other j 0) (view_of b))).notes j)
      both v j k h = after_spoken a wa said ca j k h ∙ v.spoken j h ∙ sym (after_spoken b wb other cb j k h)

      shown_st : (a : Record) (said : List ℕ) → (shown_over (λ j. mem j heard) a (step n source bound own heard (λ j. get_or said j 0) (view_of a))).state ≡ (step n source bound own heard (λ j. get_or said j 0) (view_of a)).state
      shown_st a said = over_state (λ j. mem j heard) a (step n source bound own heard (λ j. get_or said j 0) (view_of a))

      shown_rd : (a : Record) (said : List ℕ) → (shown_over (λ j. mem j heard) a (step n source bound own heard (λ j. get_or said j 0) (view_of a))).round ≡ (step n source bound own heard (λ j. get_or said j 0) (view_of a)).round
      shown_rd a said = over_round (λ j. mem j heard) a (step n source bound own heard (λ j. get_or said j 0) (view_of a))

  after_same : (a b : Record) → Whole a.notes → Whole b.notes → SameRecord heard a b → (said other : List ℕ) → SameHeard heard said other
      → SameRecord heard (record_after n source bound own heard a said) (record_after n source bound own heard b other)
  unfolding record_after
  after_same a b wa wb e said other s =
      ⊎_elim
      (λ t.
      let ca = eqb-true _ 0 t in
      let cb = sym (number_same a b e said other s) ∙ ca in
      subst (λ (x : Record). SameRecord heard x (record_after n source bound own heard b other)) (sym (pick_yes _ _ _ t))
      (subst (λ (x : Record). SameRecord heard (shown_over (λ j. mem j heard) a (step n source bound own heard (λ j. get_or said j 0) (view_of a))) x)
      (sym (pick_yes _ _ _ (eq-eqb _ _ cb))) (shown_same a b wa wb e said other s ca cb)))
      (λ t.
      subst (λ (x : Record). SameRecord heard x (record_after n source bound own heard b other)) (sym (pick_no _ _ _ t))
      (subst (λ (x : Record). SameRecord heard a x) (sym (pick_no _ _ _ (ap (λ (k : ℕ). eqb k 0) (sym (number_same a b e said other s)) ∙ t))) e))
      (decide (eqb (cause_of n source bound own heard a (length said)) 0))

  kept : (a : Record) (said : List ℕ) (j : ℕ) → j < 20 → mem j heard ≡ false
      → note_of (record_after n source bound own heard a said).notes j ≡ note_of a.notes j
  unfolding record_after shown_over
  kept a said j k m =
      pick_case (λ (x : Record). note_of x.notes j ≡ note_of a.notes j)
      (eqb (cause_of n source bound own heard a (length said)) 0) (shown_over (λ j. mem j heard) a (step n source bound own heard (λ j. get_or said j 0) (view_of a))) a
      (λ t. over_unheard (λ j. mem j heard) a.notes _ j k m)
      (λ t. refl)

  -- what holds of a note that stays, with a new word, and wiped, holds after the step
  note_after_lem {ℓ} : (Q : Note → Type ℓ) (a : Record) → Whole a.notes → (said : List ℕ) (j : ℕ) → j < 20 → Q (note_of a.notes j)
      → ((note_of a.notes j).edition ≡ edition_of (get_or said j 0)
      → Q (record { edition = (note_of a.notes j).edition; count = (note_of a.notes j).count + 1; values = set (note_of a.notes j).values (note_of a.notes j).count (layout_of (get_or said j 0)) }))
      → (((note_of a.notes j).edition ≡ edition_of (get_or said j 0) → ⊥)
      → Q (record { edition = edition_of (get_or said j 0); count = 1; values = set (replicate 40 0) 0 (layout_of (get_or said j 0)) }))
      → Q (note_of (record_after n source bound own heard a said).notes j)
  unfolding record_after shown_over
  note_after_lem Q a whole said j k stays more wipes =
      pick_case (λ (x : Record). Q (note_of x.notes j))
      (eqb (cause_of n source bound own heard a (length said)) 0) (shown_over (λ j. mem j heard) a (step n source bound own heard (λ j. get_or said j 0) (view_of a))) a
      (λ t.
      ⊎_elim
      (λ h. subst Q (sym (over_heard (λ j. mem j heard) a.notes _ j k h)) (after_note a whole said (eqb-true _ 0 t) Q j k h stays more wipes))
      (λ h. subst Q (sym (over_unheard (λ j. mem j heard) a.notes _ j k h)) stays)
      (decide (mem j heard)))
      (λ t. stays)

  place_kept : (a : Record) → Whole a.notes → (said : List ℕ) (j i : ℕ) → j < 20
      → (note_of (record_after n source bound own heard a said).notes j).edition ≡ (note_of a.notes j).edition → (i ≡ (note_of a.notes j).count → ⊥)
      → get_or (note_of (record_after n source bound own heard a said).notes j).values i 0 ≡ get_or (note_of a.notes j).values i 0
  place_kept a whole said j i k =
      note_after_lem
      (λ (x : Note). x.edition ≡ (note_of a.notes j).edition → (i ≡ (note_of a.notes j).count → ⊥) → get_or x.values i 0 ≡ get_or (note_of a.notes j).values i 0)
      a whole said j k (λ e z. refl)
      (λ s e z. get_or-set_other (note_of a.notes j).values (note_of a.notes j).count i (layout_of (get_or said j 0)) 0 z)
      (λ d e z. absurd (d (sym e)))

  place_wiped : (a : Record) → Whole a.notes → (said : List ℕ) (j i : ℕ) → j < 20
      → ((note_of (record_after n source bound own heard a said).notes j).edition ≡ (note_of a.notes j).edition → ⊥) → (i ≡ 0 → ⊥)
      → get_or (note_of (record_after n source bound own heard a said).notes j).values i 0 ≡ 0
  place_wiped a whole said j i k =
      note_after_lem (λ (x : Note). (x.edition ≡ (note_of a.notes j).edition → ⊥) → (i ≡ 0 → ⊥) → get_or x.values i 0 ≡ 0) a whole said j k (λ d z. absurd (d refl))
      (λ s d z. absurd (d refl))
      (λ s d z. get_or-set_other (replicate 40 0) 0 i (layout_of (get_or said j 0)) 0 z ∙ zeros i)
    where
      zeros : (i : ℕ) → ◌≡◌ {A = ℕ} (get_or (replicate 40 0) i 0) 0
      zeros i = ⊎_elim (λ l. get_or-replicate 40 i 0 0 l) (λ l. (let e = length-replicate {A = ℕ} 40 0 in let m : length {A = ℕ} (replicate 40 0) ≤ i = omega arith in get_or-eq_default (replicate 40 0) 0 m)) (below_or_not i 40)

  pub unheard : UnheardIgnored n source bound own heard
  unheard = record { number = λ a b wa wb e. number_same a b e; after = after_same; unchanged = kept; places = place_kept; wiped = place_wiped }
