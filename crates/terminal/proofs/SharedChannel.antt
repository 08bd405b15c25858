-- The laws of the rule on a shared channel (specs/Channel.antt): it is the step on words of edition 1 in all but the state of whoever hears the source in
-- round 1. Assumes nothing.
use Prim.Native.Nat.{ℕ, ◌+◌, ◌≤◌, ◌<◌}
use mathlib.Core.Path.{◌≡◌, refl, sym, ap, ◌∙◌, fun_ext}
use mathlib.Core.Logic.{⊎_elim}
use mathlib.Core.Bool.{Bool, true, false, not}
use mathlib.Core.List.{List, [], ◌∷◌}
use native.Mathlib.Omega.{arith}
use lib.Dec.{eqb}
use lib.ListN.{length, get_or, take, get_or-eq_default}
use lib.Seq.{get_or-take, length-take-le}
use borrow.Author.Tests.{eq-eqb, ne_eqb, eqb-true, eqb-false}
use Rattle.sets.specs.Tests.{◌or◌, pick}
use Rattle.sets.specs.Tables.{table}
use Rattle.sets.specs.Causes.{◌gives◌, first_cause}
use Rattle.sets.specs.Sets.{mem}
use Rattle.sets.proofs.Bools.{and_i, and_no_l, and_no_r, or_no, not_no, pick_yes, pick_no}
use Rattle.sets.proofs.Laws.{below_or_not}
use Rattle.sets.proofs.Tables.{table_length, table_at}
use Rattle.sets.proofs.Causes.{cause_later, cause_none}
use Rattle.quorum.specs.declared.Bound.{Bound}
use Rattle.quorum.specs.Quorum.{in_range, others, groups_sound}
use Rattle.quorum.specs.Notice.{notice_of, first_edition}
use Rattle.quorum.proofs.Notices.{first_silence}
use Rattle.terminal.specs.declared.State.{State}
use Rattle.terminal.specs.declared.State.TheVariants.{Waiting, Taken}
use Rattle.terminal.specs.declared.Record.{Record}
use Rattle.terminal.specs.Rule.{View, spoken_by, step}
use Rattle.terminal.specs.Regular.{Regular}
use Rattle.terminal.specs.Shown.{view_of, notes_over, shown_over, shown}
use Rattle.terminal.specs.Answer.{record_sound, cause_of}
use Rattle.terminal.specs.Channel.{first_hearing, word_or, shared_step, shared_cause_of, shared_record_after}
use Rattle.terminal.proofs.Shown.{view_shown, shown_over_lem}
use Rattle.terminal.proofs.Laws.{step_round, step_regular, step_unheard, step_longer}

-- ---- who takes by the source's word alone

pub first_waits : (s : State) (round : ℕ) (h : Bool) → s ≡ Waiting → round ≡ 0 → h ≡ true → first_hearing s round h ≡ true
unfolding first_hearing
first_waits s round h e z t = ap (λ (x : State). first_hearing x round h) e ∙ and_i _ _ (eq-eqb round 0 z) t

pub first_later : (s : State) (round : ℕ) (h : Bool) → (round ≡ 0 → ⊥) → first_hearing s round h ≡ false
unfolding first_hearing
first_later Waiting round h z = and_no_l _ _ (ne_eqb round 0 z)
first_later (Taken at x) round h z = refl

pub first_deaf : (s : State) (round : ℕ) (h : Bool) → h ≡ false → first_hearing s round h ≡ false
unfolding first_hearing
first_deaf Waiting round h t = and_no_r (eqb round 0) _ t
first_deaf (Taken at x) round h t = refl

pub first_taken : (s : State) (round : ℕ) (h : Bool) (at x : ℕ) → s ≡ Taken at x → first_hearing s round h ≡ false
unfolding first_hearing
first_taken s round h at x e = ap (λ (y : State). first_hearing y round h) e

pub word_said : (default word : ℕ) → (word ≡ 0 → ⊥) → word_or default word ≡ word
unfolding word_or
word_said default word z = pick_no _ _ _ (ne_eqb word 0 z)

pub word_none : (default word : ℕ) → word ≡ 0 → word_or default word ≡ default
unfolding word_or
word_none default word z = pick_yes _ _ _ (eq-eqb word 0 z)

-- ---- the step

module _ (n source : ℕ) (bound : Bound) (own heard default : ℕ) (said : ℕ → ℕ) (r : View) where
  abbrev plain : View
  plain = step n source bound own heard (λ j. first_edition (said j)) r

  abbrev after : View
  after = shared_step n source bound own heard default said r

  pub shared_round : after.round ≡ plain.round
  unfolding shared_step
  shared_round = refl

  pub shared_notes : after.notes ≡ plain.notes
  unfolding shared_step
  shared_notes = refl

  pub shared_first : first_hearing r.state r.round (mem source heard) ≡ true → after.state ≡ Taken (r.round + 1) (notice_of 1 (word_or default (said source)))
  unfolding shared_step
  shared_first h = pick_yes _ _ _ h

  -- otherwise it is the step
  pub shared_else : first_hearing r.state r.round (mem source heard) ≡ false → after ≡ plain
  unfolding shared_step
  shared_else h = λ i. record { state = pick_no _ (Taken (r.round + 1) (notice_of 1 (word_or default (said source)))) plain.state h i; round = plain.round; notes = plain.notes }

  pub shared_regular : Regular r → Regular after
  unfolding shared_step
  shared_regular g =
      let s = step_regular n source bound own heard (λ j. first_edition (said j)) r g in
      record { room = s.room; layouts = s.layouts; small = s.small; few = s.few }

-- ---- the causes

-- a row for 9 among those of a step
nine : (a b d z e f : Bool)
    → first_cause (a gives 4 ∷ b gives 5 ∷ d gives 17 ∷ z gives 9 ∷ e gives 13 ∷ f gives 12 ∷ [])
    ≡ pick (eqb (first_cause (a gives 4 ∷ b gives 5 ∷ d gives 17 ∷ e gives 13 ∷ f gives 12 ∷ [])) 4 or eqb (first_cause (a gives 4 ∷ b gives 5 ∷ d gives 17 ∷ e gives 13 ∷ f gives 12 ∷ [])) 5 or eqb (first_cause (a gives 4 ∷ b gives 5 ∷ d gives 17 ∷ e gives 13 ∷ f gives 12 ∷ [])) 17)
    (first_cause (a gives 4 ∷ b gives 5 ∷ d gives 17 ∷ e gives 13 ∷ f gives 12 ∷ []))
    (pick z 9 (first_cause (a gives 4 ∷ b gives 5 ∷ d gives 17 ∷ e gives 13 ∷ f gives 12 ∷ [])))
unfolding first_cause pick ◌or◌
nine true b d z e f = refl
nine false true d z e f = refl
nine false false true z e f = refl
nine false false false true true f = refl
nine false false false true false true = refl
nine false false false true false false = refl
nine false false false false true f = refl
nine false false false false false true = refl
nine false false false false false false = refl

module _ (n source : ℕ) (bound : Bound) (own heard default : ℕ) (r : Record) (words : ℕ) where
  pub shared_cause : shared_cause_of n source bound own heard default r words
      ≡ pick (eqb (cause_of n source bound own heard r words) 4 or eqb (cause_of n source bound own heard r words) 5 or eqb (cause_of n source bound own heard r words) 17)
      (cause_of n source bound own heard r words) (pick (eqb default 0) 9 (cause_of n source bound own heard r words))
  unfolding shared_cause_of cause_of
  shared_cause =
      nine (not (in_range n source bound.kind)) (not (others n own heard)) (not (groups_sound n source bound)) (eqb default 0) (not (record_sound n source own heard r)) (not (eqb words n))

  -- where none applies, none of the step's does, and the default is a layout
  pub shared_accepted : shared_cause_of n source bound own heard default r words ≡ 0 → (cause_of n source bound own heard r words ≡ 0) × (default ≡ 0 → ⊥)
  unfolding shared_cause_of cause_of
  shared_accepted h =
      let a = cause_none _ 4 _ (λ z. omega arith) h in
      let b = cause_none _ 5 _ (λ z. omega arith) a.1 in
      let g = cause_none _ 17 _ (λ z. omega arith) b.1 in
      let d = cause_none _ 9 _ (λ z. omega arith) g.1 in
      (cause_later _ 4 _ a.0 ∙ cause_later _ 5 _ b.0 ∙ cause_later _ 17 _ g.0 ∙ d.1, eqb-false default 0 d.0)

  -- and there is a word for each terminal
  pub shared_fits : shared_cause_of n source bound own heard default r words ≡ 0 → words ≡ n
  unfolding shared_cause_of
  shared_fits h =
      let a = cause_none _ 4 _ (λ z. omega arith) h in
      let b = cause_none _ 5 _ (λ z. omega arith) a.1 in
      let g = cause_none _ 17 _ (λ z. omega arith) b.1 in
      let d = cause_none _ 9 _ (λ z. omega arith) g.1 in
      let k = cause_none _ 13 _ (λ z. omega arith) d.1 in
      eqb-true words n (not_no _ (cause_none _ 12 _ (λ z. omega arith) k.1).0)

  pub shared_none : cause_of n source bound own heard r words ≡ 0 → (default ≡ 0 → ⊥) → shared_cause_of n source bound own heard default r words ≡ 0
  shared_none h z =
      shared_cause ∙ ap (λ (k : ℕ). pick (eqb k 4 or eqb k 5 or eqb k 17) k (pick (eqb default 0) 9 k)) h
      ∙ pick_no (eqb 0 4 or eqb 0 5 or eqb 0 17) 0 (pick (eqb default 0) 9 0) none ∙ pick_no _ _ _ (ne_eqb default 0 z)
    where
      none : eqb 0 4 or eqb 0 5 or eqb 0 17 ≡ false
      none = or_no _ _ refl (or_no _ _ refl refl)

-- ---- the code's step on a record that is shown

module _ (n source : ℕ) (bound : Bound) (own heard default : ℕ) (r : View) (regular : Regular r) where
  -- the record that comes back shows the rule's
  pub shown_shared : (said : List ℕ) → r.round < 40 → shared_cause_of n source bound own heard default (shown r) (length said) ≡ 0
      → shared_record_after n source bound own heard default (shown r) said ≡ shown (shared_step n source bound own heard default (λ j. get_or said j 0) r)
  unfolding shared_record_after shared_step
  shown_shared said early e =
      let few : (j : ℕ) → length (spoken_by r.notes j).layouts ≤ 40 = λ j. let l = regular.few j in omega arith in
      let said-as : ℕ → ℕ = λ j. first_edition (get_or said j 0) in
      pick_yes _ _ _ (eq-eqb _ _ e)
      ∙ ap (λ (x : View). shown_over (λ j. mem j heard) (shown r) (shared_step n source bound own heard default (λ j. get_or said j 0) x)) (view_shown r regular.room few)
      ∙ shown_over_lem r regular.room few (λ j. mem j heard) (shared_step n source bound own heard default (λ j. get_or said j 0) r)
      (λ j h. step_unheard n source bound own heard (λ j. first_edition (get_or said j 0)) r j h)
      (λ j. step_longer n source bound own heard (λ j. first_edition (get_or said j 0)) r j)
      (λ j. let g = (step_regular n source bound own heard (λ j. first_edition (get_or said j 0)) r regular).few j in
      let q = step_round n source bound own heard (λ j. first_edition (get_or said j 0)) r in omega arith)

-- ---- the list of notices that the code makes of what was said

pub notices_said : (n : ℕ) → n ≤ 20 → (said : List ℕ) → length said ≡ n
    → ◌≡◌ {A = ℕ → ℕ} (λ j. get_or (take n (table 20 (λ j. first_edition (get_or said j 0)))) j 0) (λ j. first_edition (get_or said j 0))
notices_said n h said e =
    fun_ext
    (λ j.
    ⊎_elim
    (λ l.
    get_or-take n (table 20 (λ j. first_edition (get_or said j 0))) j 0 l ∙ table_at 20 (λ j. first_edition (get_or said j 0)) 0 j (omega arith))
    (λ l.
    get_or-eq_default (take n (table 20 (λ j. first_edition (get_or said j 0)))) 0
    (let u = length-take-le n (table 20 (λ j. first_edition (get_or said j 0))) (omega (arith, table_length 20 (λ j. first_edition (get_or said j 0)))) in omega arith)
    ∙ sym (ap first_edition (get_or-eq_default said 0 (omega arith)) ∙ first_silence))
    (below_or_not j n))

-- ---- the code's round, from the record that the step leaves

module _ (n source : ℕ) (bound : Bound) (own heard default : ℕ) (before : Record) (said : ℕ → ℕ) (x : Record)
    (e : x ≡ shown_over (λ j. mem j heard) before (step n source bound own heard (λ j. first_edition (said j)) (view_of before))) where
  pub first_shown : first_hearing before.state before.round (mem source heard) ≡ true
      → record { state = Taken x.round (notice_of 1 (word_or default (said source))); round = x.round; notes = x.notes }
      ≡ shown_over (λ j. mem j heard) before (shared_step n source bound own heard default said (view_of before))
  unfolding shown_over view_of step shared_step
  first_shown h =
      let plain = step n source bound own heard (λ j. first_edition (said j)) (view_of before) in
      ap (λ (y : Record). record { state = Taken y.round (notice_of 1 (word_or default (said source))); round = y.round; notes = y.notes }) e
      ∙ (λ i.
      record {
        state = sym (pick_yes (first_hearing before.state before.round (mem source heard)) (Taken (before.round + 1) (notice_of 1 (word_or default (said source)))) plain.state h) i;
        round = before.round + 1;
        notes = notes_over (λ j. mem j heard) before.notes plain.notes;
      })

  pub else_shown : first_hearing before.state before.round (mem source heard) ≡ false
      → x ≡ shown_over (λ j. mem j heard) before (shared_step n source bound own heard default said (view_of before))
  unfolding view_of
  else_shown h = e ∙ ap (shown_over (λ j. mem j heard) before) (sym (shared_else n source bound own heard default said (view_of before) h))

-- ---- the record that comes back, by the number of the cause

module _ (n source : ℕ) (bound : Bound) (own heard default : ℕ) (r : Record) (said : List ℕ) where
  pub shared_after : 0 ≡ shared_cause_of n source bound own heard default r (length said)
      → shown_over (λ j. mem j heard) r (shared_step n source bound own heard default (λ j. get_or said j 0) (view_of r)) ≡ shared_record_after n source bound own heard default r said
  unfolding shared_record_after
  shared_after h = sym (pick_yes _ _ _ (eq-eqb _ _ (sym h)))

  pub shared_refused : (k : ℕ) → k ≡ shared_cause_of n source bound own heard default r (length said) → eqb k 0 ≡ false → r ≡ shared_record_after n source bound own heard default r said
  unfolding shared_record_after
  shared_refused k h t = sym (pick_no _ _ _ (ap (λ (x : ℕ). eqb x 0) (sym h) ∙ t))
