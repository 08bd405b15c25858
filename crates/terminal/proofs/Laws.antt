-- The laws of the rule (specs/Rule.antt) that the layers above use in place of its text. They speak of a record's round and state, and of its notes
-- only through `holds`, which notices it has from which neighbour, and through the edition that is noted of each. Assumes nothing.
use Prim.Native.Nat.{ℕ, zero, suc, ◌+◌, ◌≤◌, ◌<◌}
use mathlib.Core.Path.{◌≡◌, refl, sym, ap, ◌∙◌, subst}
use mathlib.Core.Logic.{◌⊎◌, inl, inr, ⊎_elim}
use mathlib.Core.Bool.{Bool, true, false, not}
use mathlib.Core.List.{List}
use native.Mathlib.Omega.{arith}
use lib.Dec.{eqb, ltb, leb}
use borrow.Author.Tests.{lt-ltb, le-leb, eq-eqb, ne_eqb}
use lib.ListN.{length, get_or, replicate, length-replicate}
use Rattle.sets.specs.Tests.{◌and◌, ◌implies◌}
use Rattle.sets.specs.Sets.{mem}
use Rattle.quorum.specs.declared.Bound.{Bound}
use Rattle.quorum.specs.Quorum.{enough, in_range, others, groups_sound}
use Rattle.quorum.specs.Notice.{edition_of, layout_of, silent}
use Rattle.quorum.proofs.Laws.{enough_none}
use Rattle.quorum.proofs.Notices.{same_notice, edition_zero, said_layout}
use Rattle.sets.proofs.Bools.{clash, no_by, and_i, and_no_l, and_no_r, not_i, not_yes, implies_i, pick_yes, pick_no}
use Rattle.sets.proofs.Laws.{all_i, equal_or_not, below_or_not}
use Rattle.sets.proofs.Causes.{cause_here, cause_later, cause_last}
use Rattle.terminal.specs.declared.State.{State}
use Rattle.terminal.specs.declared.State.TheVariants.{Waiting, Taken}
use Rattle.terminal.specs.declared.Record.{Record}
use Rattle.terminal.specs.Rule.{Spoken, nothing_said, View, start, source_start, spoken_by, in_edition, among, with_word, noted, holds, chosen, held_by, taking, step, issue, says_in}
use Rattle.terminal.specs.Regular.{Regular}
use Rattle.terminal.specs.Shown.{note_of, shown_over, shown, says}
use Rattle.terminal.specs.Answer.{state_sound, counts_sound, record_sound, cause_of, record_after, issue_cause, record_issued}
use Rattle.terminal.proofs.Values.{in_by, unheard_word, word_length, word_longer, word_edition, word_why, word_said, word_stays, word_noted, word_clean, word_small}
use Rattle.terminal.proofs.Notes.{noted_length, noted_at, noted_by, noted_agree, nothing_noted}
use Rattle.terminal.proofs.Newest.{holds_i, holds_said, holds_among, holds_edition, Reason, chosen_why, chosen_source, chosen_votes}
use Rattle.terminal.proofs.Shown.{shown_state, shown_round, shown_count, view_shown, shown_over_lem}

pub taking_none : (round : ℕ) (state : State) (x : ℕ) → x ≡ 0 → taking round state x ≡ state
unfolding taking
taking_none round state zero e = refl
taking_none round state (suc x) e = absurd (omega arith)

pub taking_some : (round : ℕ) (state : State) (x : ℕ) → (x ≡ 0 → ⊥) → taking round state x ≡ Taken round x
unfolding taking
taking_some round state zero n = absurd (n refl)
taking_some round state (suc x) n = refl

-- the edition that a state holds
pub held_waiting : (s : State) → s ≡ Waiting → held_by s ≡ 0
unfolding held_by
held_waiting s e = ap held_by e

pub held_taken : (s : State) (at x : ℕ) → s ≡ Taken at x → held_by s ≡ edition_of x
unfolding held_by
held_taken s at x e = ap held_by e

-- ---- the start records

nothing_regular : (state : State) → Regular (record { state = state; round = 0; notes = replicate 20 nothing_said })
unfolding among
nothing_regular state = record {
  room = length-replicate {A = Spoken} 20 nothing_said;
  layouts = λ j. ap (λ (x : Spoken). among 0 x.layouts) (nothing_noted 20 j);
  small = λ j v h. clash h (ap (λ (x : Spoken). among v x.layouts) (nothing_noted 20 j));
  few = λ j. let e = ap (λ (x : Spoken). length x.layouts) (nothing_noted 20 j) in omega arith;
}

pub start_regular : Regular start
start_regular = nothing_regular Waiting

pub source_start_regular : (notice : ℕ) → Regular (source_start notice)
source_start_regular notice = nothing_regular (Taken 0 notice)

-- nobody has said anything
none_held : (state : State) (x j : ℕ) → holds (record { state = state; round = 0; notes = replicate 20 nothing_said }) x j ≡ false
unfolding holds among
none_held state x j =
    and_no_r _ _
    (ap (λ (s : Spoken). among (layout_of x) (in_edition (edition_of x) s)) (nothing_noted 20 j)
    ∙ in_by (λ (l : List ℕ). among (layout_of x) l ≡ false) (edition_of x) nothing_said refl refl)

pub start_empty : (x j : ℕ) → holds start x j ≡ false
start_empty x j = none_held Waiting x j

pub source_start_empty : (notice x j : ℕ) → holds (source_start notice) x j ≡ false
source_start_empty notice x j = none_held (Taken 0 notice) x j

-- the edition that is noted of terminal j, 0 at the start
abbrev pub noted_edition : View → ℕ → ℕ
noted_edition r j = (spoken_by r.notes j).edition

pub start_edition : (j : ℕ) → noted_edition start j ≡ 0
start_edition j = ap (λ (x : Spoken). x.edition) (nothing_noted 20 j)

pub source_start_edition : (notice j : ℕ) → noted_edition (source_start notice) j ≡ 0
source_start_edition notice j = ap (λ (x : Spoken). x.edition) (nothing_noted 20 j)

-- a source that starts with silence is refused by its first step
pub source_start_silent : (n source : ℕ) (bound : Bound) (own heard words notice : ℕ) → silent notice ≡ true → in_range n source bound.kind ≡ true → others n own heard ≡ true
    → groups_sound n source bound ≡ true → cause_of n source bound own heard (shown (source_start notice)) words ≡ 13
unfolding cause_of record_sound state_sound shown shown_over
source_start_silent n source bound own heard words notice s r h g =
    cause_later _ 4 _ (not_yes r) ∙ cause_later _ 5 _ (not_yes h) ∙ cause_later _ 17 _ (not_yes g)
    ∙ cause_here _ 13 _ (not_i (and_no_r (ltb 0 40) _ (and_no_r (ltb own n) _ (and_no_l _ _ (and_no_r (leb 0 0) (not (silent notice)) (not_yes s))))))

-- ---- the step

module _ (n source : ℕ) (bound : Bound) (own heard : ℕ) (said : ℕ → ℕ) where
  abbrev after : View → View
  after r = step n source bound own heard said r

  -- each step raises the round number by one
  pub step_round : (r : View) → (after r).round ≡ r.round + 1
  unfolding step
  step_round r = refl

  step_notes : (r : View) → (after r).notes ≡ noted n (λ j. mem j heard) said r.notes
  unfolding step
  step_notes r = refl

  -- what holds of what a neighbour has said before the step, and of that with its word, holds after it
  pub step_by {ℓ} : (Q : Spoken → Type ℓ) (r : View) (j : ℕ)
      → Q (spoken_by r.notes j) → Q (with_word (mem j heard) (spoken_by r.notes j) (said j)) → Q (spoken_by (after r).notes j)
  unfolding step
  step_by Q r j p q = noted_by Q n (λ j. mem j heard) said r.notes j p q

  pub step_regular : (r : View) → Regular r → Regular (after r)
  unfolding step
  step_regular r g = record {
    room = noted_length n (λ j. mem j heard) said r.notes ∙ g.room;
    layouts = λ j. step_by (λ (x : Spoken). among 0 x.layouts ≡ false) r j (g.layouts j) (word_clean (mem j heard) (spoken_by r.notes j) (said j) (g.layouts j));
    small = λ j.
        step_by (λ (x : Spoken). (v : ℕ) → among v x.layouts ≡ true → v < 65536) r j (g.small j) (word_small (mem j heard) (spoken_by r.notes j) (said j) (g.small j));
    few = λ j.
        let old : length (spoken_by r.notes j).layouts ≤ r.round = g.few j in
        step_by (λ (x : Spoken). length x.layouts ≤ r.round + 1) r j (omega arith)
        (omega (arith, word_length (mem j heard) (spoken_by r.notes j) (said j)));
  }

  -- what one who is not heard has said stays, and while an edition stays no layout is lost
  pub step_unheard : (r : View) (j : ℕ) → mem j heard ≡ false → spoken_by (after r).notes j ≡ spoken_by r.notes j
  step_unheard r j h =
      step_by (λ (x : Spoken). x ≡ spoken_by r.notes j) r j refl
      (ap (λ (b : Bool). with_word b (spoken_by r.notes j) (said j)) h ∙ unheard_word (spoken_by r.notes j) (said j))

  pub step_longer : (r : View) (j : ℕ) → noted_edition r j ≡ noted_edition (after r) j → length (spoken_by r.notes j).layouts ≤ length (spoken_by (after r).notes j).layouts
  step_longer r j =
      step_by (λ (x : Spoken). noted_edition r j ≡ x.edition → length (spoken_by r.notes j).layouts ≤ length x.layouts) r j (λ e. omega arith)
      (λ e. word_longer (mem j heard) (spoken_by r.notes j) (said j) (sym e))

  -- of a terminal of which two records have the same, and which says the same to both if it is heard, they then have the same
  pub step_agree : (other : ℕ → ℕ) (r s : View) → length r.notes ≡ length s.notes → (j : ℕ) → spoken_by r.notes j ≡ spoken_by s.notes j
      → (mem j heard ≡ true → said j ≡ other j) → spoken_by (after r).notes j ≡ spoken_by (step n source bound own heard other s).notes j
  unfolding step
  step_agree other r s l j e w = noted_agree n (λ j. mem j heard) said other r.notes s.notes l j e w

  -- ---- the notes

  -- what is noted of a neighbour was noted before, or it said it now
  pub note_said : (r : View) (x j : ℕ) → holds (after r) x j ≡ true → (holds r x j ≡ true) ⊎ ((mem j heard ≡ true) × (said j ≡ x))
  note_said r x j h =
      ⊎_elim (λ e. inl (holds_i r x j (holds_said (after r) x j h) e)) (λ e. inr (e.0, same_notice (said j) x e.1 e.2))
      (step_by
      (λ (s : Spoken).
      among (layout_of x) (in_edition (edition_of x) s) ≡ true
      → (among (layout_of x) (in_edition (edition_of x) (spoken_by r.notes j)) ≡ true) ⊎ ((mem j heard ≡ true) × (edition_of (said j) ≡ edition_of x) × (layout_of (said j) ≡ layout_of x))) r j
      inl (word_said (mem j heard) (spoken_by r.notes j) (said j) (edition_of x) (layout_of x)) (holds_among (after r) x j h))

  -- what is noted stays, unless the neighbour says a higher edition
  pub note_stays : (r : View) (x j : ℕ) → (silent (said j) ≡ false → edition_of (said j) ≤ edition_of x) → holds r x j ≡ true → holds (after r) x j ≡ true
  note_stays r x j low h =
      let e = holds_among r x j h in
      holds_i (after r) x j (holds_said r x j h)
      (step_by (λ (s : Spoken). among (layout_of x) (in_edition (edition_of x) s) ≡ true) r j e
      (word_stays (mem j heard) (spoken_by r.notes j) (said j) (edition_of x) (layout_of x) low e))

  -- what a heard neighbour says in its edition or in a higher one is noted: from then on it counts
  pub spoken_noted : (r : View) (j : ℕ) → j < n → j < length r.notes → mem j heard ≡ true → silent (said j) ≡ false → noted_edition r j ≤ edition_of (said j)
      → holds (after r) (said j) j ≡ true
  unfolding step
  spoken_noted r j k l h z above =
      holds_i (after r) (said j) j z
      (ap (λ (s : Spoken). among (layout_of (said j)) (in_edition (edition_of (said j)) s)) (noted_at n (λ j. mem j heard) said r.notes j k l)
      ∙ ap (λ (b : Bool). among (layout_of (said j)) (in_edition (edition_of (said j)) (with_word b (spoken_by r.notes j) (said j)))) h
      ∙ word_noted (spoken_by r.notes j) (said j) z above)

  -- the edition that is noted never falls, and where it changes it is that of what was said
  pub edition_grows : (r : View) (j : ℕ) → noted_edition r j ≤ noted_edition (after r) j
  edition_grows r j = step_by (λ (s : Spoken). noted_edition r j ≤ s.edition) r j (omega arith) (word_edition (mem j heard) (spoken_by r.notes j) (said j))

  pub edition_why : (r : View) (j : ℕ)
      → (noted_edition (after r) j ≡ noted_edition r j) ⊎ ((mem j heard ≡ true) × (silent (said j) ≡ false) × (noted_edition (after r) j ≡ edition_of (said j)))
  edition_why r j =
      step_by (λ (s : Spoken). (s.edition ≡ noted_edition r j) ⊎ ((mem j heard ≡ true) × (silent (said j) ≡ false) × (s.edition ≡ edition_of (said j)))) r j
      (inl refl) (word_why (mem j heard) (spoken_by r.notes j) (said j))

  -- ---- the state

  small_in : (r : View) → Regular r → (e v j : ℕ) → among v (in_edition e (spoken_by r.notes j)) ≡ true → v < 65536
  unfolding among
  small_in r g e v j = in_by (λ (l : List ℕ). among v l ≡ true → v < 65536) e (spoken_by r.notes j) (g.small j v) (λ h. clash h refl)

  abbrev choose : View → ℕ
  choose r = chosen n source bound heard (after r).notes (held_by r.state)

  -- the source's state stays
  pub source_stays : (r : View) → own ≡ source → (after r).state ≡ r.state
  unfolding step
  source_stays r e = pick_yes _ _ _ (eq-eqb own source e)

  other_state : (r : View) → (own ≡ source → ⊥) → (after r).state ≡ taking (r.round + 1) r.state (choose r)
  unfolding step
  other_state r z = pick_no _ _ _ (ne_eqb own source z)

  -- why a terminal took x: it has it from the source, or from enough neighbours
  unfoldable pub Why : View → ℕ → Type 0
  Why r x = ((mem source heard ≡ true) × (holds r x source ≡ true)) ⊎ (enough n bound (λ j. mem j heard and holds r x j) ≡ true)

  -- it has taken a notice: no silence, with the raised round number, above what it held, and for a reason
  pub record Takes (r : View) (x : ℕ) : Type 0 where
    pub other : own ≡ source → ⊥
    pub state_is : (after r).state ≡ Taken (r.round + 1) x
    pub said_something : silent x ≡ false
    pub above : held_by r.state < edition_of x
    pub reason : Why (after r) x

  -- a state stays, or the terminal has taken
  pub step_state : (r : View) → Regular r → ((after r).state ≡ r.state) ⊎ ((x : ℕ) × Takes r x)
  unfolding Why Reason
  step_state r g =
      ⊎_elim (λ e. inl (source_stays r e))
      (λ z.
      ⊎_elim (λ e. inl (other_state r z ∙ taking_none (r.round + 1) r.state (choose r) e))
      (λ nz.
      let w = chosen_why n source bound heard (after r) (held_by r.state) (small_in (after r) (step_regular r g)) (choose r) refl nz in
      inr (
        choose r,
        record {
          other = z;
          state_is = other_state r z ∙ taking_some (r.round + 1) r.state (choose r) nz;
          said_something = w.0;
          above = w.1;
          reason = w.3;
        },
      ))
      (equal_or_not (choose r) 0))
      (equal_or_not own source)

  -- where no neighbour is noted with an edition above the one that is held, the state stays
  pub held_stays : (r : View) → Regular r → ((j : ℕ) → noted_edition (after r) j ≤ held_by r.state) → (after r).state ≡ r.state
  unfolding Why
  held_stays r g low =
      ⊎_elim (λ e. e)
      (λ t.
      let not-held : (j : ℕ) → holds (after r) t.0 j ≡ true → ⊥ = λ j h. omega (arith, holds_edition (after r) t.0 j h, low j, t.1.above) in
      ⊎_elim (λ w. absurd (not-held source w.1))
      (λ w. clash w (enough_none n bound (λ j. mem j heard and holds (after r) t.0 j) (λ j k. and_no_r (mem j heard) _ (no_by (not-held j)))))
      t.1.reason)
      (step_state r g)

  -- the edition that a terminal holds never falls
  pub held_grows : (r : View) → Regular r → held_by r.state ≤ held_by (after r).state
  unfolding held_by
  held_grows r g =
      ⊎_elim (λ e. omega (arith, ap held_by e)) (λ t. omega (arith, t.1.above, ap held_by t.1.state_is)) (step_state r g)

  -- where a terminal has a reason for a notice, it then holds its edition or a higher one
  held_chosen : (r : View) → Regular r → (own ≡ source → ⊥) → (x : ℕ) → (held_by r.state < edition_of x → edition_of x ≤ edition_of (choose r)) → edition_of x ≤ held_by (after r).state
  unfolding held_by
  held_chosen r g z x up =
      ⊎_elim
      (λ l.
      let c = up l in
      ⊎_elim
      (λ e. absurd (omega (arith, ap edition_of e, edition_zero, c, l)))
      (λ nz. omega (arith, ap held_by (other_state r z ∙ taking_some (r.round + 1) r.state (choose r) nz), c))
      (equal_or_not (choose r) 0))
      (λ l. omega (arith, held_grows r g, l))
      (below_or_not (held_by r.state) (edition_of x))

  pub holds_source : (r : View) → Regular r → (own ≡ source → ⊥) → source < n → mem source heard ≡ true → (x : ℕ) → holds (after r) x source ≡ true
      → edition_of x ≤ held_by (after r).state
  holds_source r g z k h x y =
      held_chosen r g z x
      (chosen_source n source bound heard (after r) (held_by r.state) (small_in (after r) (step_regular r g)) x k h ((step_regular r g).layouts source) y)

  pub holds_votes : (r : View) → Regular r → (own ≡ source → ⊥) → (x : ℕ) → enough n bound (λ j. mem j heard and holds (after r) x j) ≡ true
      → edition_of x ≤ held_by (after r).state
  holds_votes r g z x h =
      held_chosen r g z x (chosen_votes n source bound heard (after r) (held_by r.state) (small_in (after r) (step_regular r g)) x h)

-- ---- the office's own terminal takes a notice

pub issue_state : (x : ℕ) (r : View) → (issue x r).state ≡ Taken r.round x
unfolding issue
issue_state x r = refl

pub issue_round : (x : ℕ) (r : View) → (issue x r).round ≡ r.round
unfolding issue
issue_round x r = refl

pub issue_holds : (x : ℕ) (r : View) (y j : ℕ) → holds (issue x r) y j ≡ holds r y j
unfolding issue holds
issue_holds x r y j = refl

pub issue_edition : (x : ℕ) (r : View) (j : ℕ) → noted_edition (issue x r) j ≡ noted_edition r j
unfolding issue
issue_edition x r j = refl

pub issue_regular : (x : ℕ) (r : View) → Regular r → Regular (issue x r)
unfolding issue
issue_regular x r g = record { room = g.room; layouts = g.layouts; small = g.small; few = g.few }

-- ---- the code's step on a record that is shown

state_sound_lem : (s : State) (isSource : Bool) (round : ℕ) → (s ≡ Waiting → isSource ≡ false) → ((t v : ℕ) → s ≡ Taken t v → (t ≤ round) × (silent v ≡ false))
    → state_sound s isSource round ≡ true
unfolding state_sound
state_sound_lem Waiting isSource round w t = not_i (w refl)
state_sound_lem (Taken a v) isSource round w t = let h = t a v refl in and_i _ _ (le-leb a round h.0) (not_i h.1)

module _ (n source : ℕ) (bound : Bound) (own heard : ℕ) (r : View) (regular : Regular r) where
  -- it is not refused before round 40
  pub not_refused : (words : ℕ) → in_range n source bound.kind ≡ true → others n own heard ≡ true → groups_sound n source bound ≡ true
      → r.round < 40 → own < n → (r.state ≡ Waiting → own ≡ source → ⊥) → ((t x : ℕ) → r.state ≡ Taken t x → (t ≤ r.round) × (silent x ≡ false))
      → words ≡ n → cause_of n source bound own heard (shown r) words ≡ 0
  unfolding cause_of record_sound counts_sound
  not_refused words range hears groups early placed waiting taken fit =
      let e : (shown r).round ≡ r.round = shown_round r in
      cause_later _ 4 _ (not_yes range) ∙ cause_later _ 5 _ (not_yes hears) ∙ cause_later _ 17 _ (not_yes groups)
      ∙ cause_later _ 13 _
      (not_yes
      (and_i _ _ (lt-ltb (shown r).round 40 (omega arith))
      (and_i _ _ (lt-ltb own n placed)
      (and_i _ _
      (subst (λ (m : ℕ). state_sound (shown r).state (eqb own source) m ≡ true) (sym e)
      (subst (λ (s : State). state_sound s (eqb own source) r.round ≡ true) (sym (shown_state r))
      (state_sound_lem r.state (eqb own source) r.round (λ w. ne_eqb own source (waiting w)) taken)))
      (all_i 20 (λ j. mem j heard implies leb (note_of (shown r).notes j).count (shown r).round)
      (λ j k. implies_i _ _ (λ m. le-leb (note_of (shown r).notes j).count (shown r).round (let c = shown_count r j k in let l = regular.few j in omega arith))))))))
      ∙ cause_last _ 12 (not_yes (eq-eqb words n fit))

  -- the record that comes back shows the rule's
  pub shown_step : (said : List ℕ) → r.round < 40 → cause_of n source bound own heard (shown r) (length said) ≡ 0
      → record_after n source bound own heard (shown r) said ≡ shown (step n source bound own heard (λ j. get_or said j 0) r)
  unfolding record_after
  shown_step said early e =
      let few : (j : ℕ) → length (spoken_by r.notes j).layouts ≤ 40 = λ j. let l = regular.few j in omega arith in
      pick_yes _ _ _ (eq-eqb _ _ e)
      ∙ ap (λ (x : View). shown_over (λ j. mem j heard) (shown r) (step n source bound own heard (λ j. get_or said j 0) x)) (view_shown r regular.room few)
      ∙ shown_over_lem r regular.room few (λ j. mem j heard) (step n source bound own heard (λ j. get_or said j 0) r)
      (λ j h. step_unheard n source bound own heard (λ j. get_or said j 0) r j h)
      (λ j. step_longer n source bound own heard (λ j. get_or said j 0) r j)
      (λ j. let g = (step_regular n source bound own heard (λ j. get_or said j 0) r regular).few j in
      let q = step_round n source bound own heard (λ j. get_or said j 0) r in omega arith)

-- ---- the office's notice on a record that is shown

module _ (r : View) (x : ℕ) where
  -- it is not refused up to round 40, where the notice is above the one held
  pub issue_taken : r.round ≤ 40 → (t y : ℕ) → r.state ≡ Taken t y → t ≤ r.round → silent y ≡ false → silent x ≡ false → edition_of y < edition_of x
      → issue_cause (shown r) x ≡ 0
  unfolding issue_cause held_by
  issue_taken early t y e l s z up =
      cause_later _ 9 _ (ne_eqb (layout_of x) 0 (said_layout x z))
      ∙ cause_later _ 16 _ (not_yes (lt-ltb (held_by (shown r).state) (edition_of x) (let q = ap held_by (shown_state r ∙ e) in omega arith)))
      ∙ cause_last _ 13
      (not_yes
      (and_i _ _ (le-leb (shown r).round 40 (let q = shown_round r in omega arith))
      (subst (λ (m : ℕ). state_sound (shown r).state true m ≡ true) (sym (shown_round r))
      (subst (λ (m : State). state_sound m true r.round ≡ true) (sym (shown_state r ∙ e))
      (state_sound_lem (Taken t y) true r.round (λ w. let q : ◌≡◌ {A = ℕ} 0 1 = cc in absurd (omega arith))
      (λ a v q. let ta : t ≡ a = cc in let yv : y ≡ v = cc in (omega arith, ap silent (sym yv) ∙ s)))))))

  -- the record that comes back shows the rule's
  pub shown_issue : issue_cause (shown r) x ≡ 0 → record_issued (shown r) x ≡ shown (issue x r)
  unfolding record_issued issue shown shown_over
  shown_issue e = pick_yes _ _ _ (eq-eqb _ _ e)

-- ---- what a terminal says after a round

says_in_took : (round at value : ℕ) → at ≡ round → says_in (round + 1) (Taken at value) ≡ value
unfolding says_in
says_in_took round at value e = pick_yes _ _ _ (eq-eqb _ _ (ap (λ (k : ℕ). k + 1) e))

says_in_else : (round at value : ℕ) → (at ≡ round → ⊥) → says_in (round + 1) (Taken at value) ≡ 0
unfolding says_in
says_in_else round at value ne = pick_no _ _ _ (ne_eqb (at + 1) (round + 1) (λ e. ne (omega (arith, e))))

-- it took in the round that its record shows: its value
pub says_took : (r : Record) (at value : ℕ) → r.state ≡ Taken at value → at ≡ r.round → says r ≡ value
unfolding says
says_took r at value e q = ap (says_in (r.round + 1)) e ∙ says_in_took r.round at value q

-- it took in another round: nothing
pub says_else : (r : Record) (at value : ℕ) → r.state ≡ Taken at value → (at ≡ r.round → ⊥) → says r ≡ 0
unfolding says
says_else r at value e q = ap (says_in (r.round + 1)) e ∙ says_in_else r.round at value q

-- it waits: nothing
pub says_waits : (r : Record) → r.state ≡ Waiting → says r ≡ 0
unfolding says says_in
says_waits r e = ap (says_in (r.round + 1)) e
