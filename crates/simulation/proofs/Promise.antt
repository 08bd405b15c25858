-- Demand 3 of the run's own records, from the theory. Assumes nothing.
use Prim.Native.Nat.{ℕ, zero, suc, ◌+◌, ◌*◌, ◌-◌, ◌≤◌, ◌<◌}
use mathlib.Core.Path.{◌≡◌, refl, sym, ap, ◌∙◌, subst}
use mathlib.Core.Bool.{true, false}
use mathlib.Core.List.{List, map}
use mathlib.Core.Logic.{⊎_elim}
use native.Mathlib.Nat.{eq-or-lt_of_le, le_of_suc-le-suc}
use native.Mathlib.Numerals.{add-one}
use native.Mathlib.Omega.{arith}
use lib.Dec.{eqb}
use lib.ListN.{length, get_or, replicate, length-replicate, get_or-map}
use borrow.Author.Tests.{eqb-true, eq-eqb, ne_eqb, le-leb}
use Rattle.sets.specs.Tests.{pick}
use Rattle.sets.proofs.Bools.{decide, and_i, not_i, pick_yes, pick_no}
use Rattle.terminal.specs.declared.Record.{Record}
use Rattle.terminal.specs.declared.State.{State}
use Rattle.terminal.specs.Rule.{start, held_by}
use Rattle.terminal.specs.Shown.{shown, nothing_heard}
use Rattle.terminal.proofs.Shown.{shown_state}
use Rattle.plan.specs.declared.Plan.{Plan}
use Rattle.plan.specs.Plan.{cause_of}
use Rattle.plan.proofs.Laws.{sound}
use Rattle.propagation.specs.Run.{Script, Silent, Office, office_of, Rising, sites, site, script_of}
use Rattle.propagation.specs.Demand3.{Good, Demand3}
use Rattle.propagation.proofs.Offices.{list_rises}
use Rattle.sets.specs.Tables.{table}
use Rattle.closure.specs.Verdict.{verdict}
use Rattle.propagation.proofs.Demand3.{demand3}
use Rattle.closure.proofs.Witness.{accepts_e}
use Rattle.sets.proofs.Tables.{table_at}
use Rattle.faults.proofs.Laws.{fault_is}
use Rattle.simulation.specs.declared.Turn.{Turn}
use Rattle.simulation.specs.Turns.{record_of, first_turn, played_after, CanPlay, left_after}
use Rattle.simulation.specs.Answer.{office_sound, run_cause, turns_of, records_after, array_after, state_of, Demand3Holds, Defeated, silent_words, nothing_later}
use Rattle.quorum.specs.Notice.{edition_of, layout_of, silent, rising}
use Rattle.quorum.proofs.Notices.{said_edition, said_layout, silent_zero}
use Rattle.quorum.specs.Words.{start_sound}
use Rattle.simulation.proofs.Causes.{fits, given_played, cause_given, Accepted, accepted_run, turns_played, turns_refused}
use Rattle.simulation.proofs.Meaning.{cause_none, walk_is, walk_array, turn_placed}

-- records that show, terminal by terminal, those of the rules have demand 3
pub promised : (p : Plan) (faulty first : ℕ) (later : List ℕ) (rounds : ℕ) (words : List ℕ) (places : ℕ) (records : List Record)
    → Accepted p faulty first later rounds (length words) places
    → ((b : ℕ) → b < p.n → get_or records b nothing_heard ≡ shown (site p faulty (office_of first later) (script_of p.n words) rounds b))
    → Demand3Holds p faulty first later rounds words records
unfolding office_of
promised p faulty first later rounds words places records a same = record {
  issued = λ b g at x e. d.issued office up faulty a.fault script rounds b g at x (sym (state_same b g.0) ∙ e);
  last = λ h q l quiet b g. let w = d.last h office up faulty a.fault script q rounds b l quiet g in (w.0, state_same b g.0 ∙ w.1);
  editions = λ k b l g. subst (λ (s : State). held_by (site p faulty office script k b).state ≤ held_by s) (sym (state_same b g.0)) (grown k b g rounds l);
  safe = λ quiet b g at x e. d.safe office up faulty a.fault script rounds b quiet g at x (sym (state_same b g.0) ∙ e);
  passes = λ h l quiet b g e. d.passes h office up faulty a.fault script rounds b l quiet g (sym (state_same b g.0) ∙ e);
  silent = λ h f z b k m.
      state_same b k
      ∙ (λ i. (site p (f i) office script rounds b).state)
      ∙ d.silent h office script rounds b (subst (λ (x : ℕ). Silent p x rounds script) f z) k m;
  steps = λ k b l g. cause_none p a.plan_sound faulty first later words up a.fault k b p.n (let f = a.forty in omega arith) g.0 g.1 refl;
}
  where
    office : Office
    office = office_of first later

    script : Script
    script = script_of p.n words

    up : Rising (office_of first later)
    up = list_rises first later a.first_said a.rises

    d : Demand3 p
    d = demand3 p a.plan_sound

    state_same : (b : ℕ) → b < p.n → state_of records b ≡ (site p faulty (office_of first later) (script_of p.n words) rounds b).state
    state_same b k = ap (λ (r : Record). r.state) (same b k) ∙ shown_state (site p faulty (office_of first later) (script_of p.n words) rounds b)

    -- round by round
    grown : (k b : ℕ) → Good p faulty b → (r : ℕ) → k ≤ r
        → held_by (site p faulty (office_of first later) (script_of p.n words) k b).state ≤ held_by (site p faulty (office_of first later) (script_of p.n words) r b).state
    grown k b g zero l = let e : k ≡ 0 = omega arith in omega (arith, ap (λ (x : ℕ). held_by (site p faulty (office_of first later) (script_of p.n words) x b).state) e)
    grown k b g (suc r) l =
        ⊎_elim (λ e. omega (arith, ap (λ (x : ℕ). held_by (site p faulty (office_of first later) (script_of p.n words) x b).state) e))
        (λ m. omega (arith, grown k b g r (le_of_suc-le-suc m), d.editions (office_of first later) up faulty a.fault (script_of p.n words) r b g))
        (eq-or-lt_of_le l)

-- ---- the turns of a run on a list that has a place for each terminal where the run is accepted

module _ (p : Plan) (faulty first : ℕ) (later : List ℕ) (rounds : ℕ) (words : List ℕ) (places : ℕ) (ys : List Record) where
  abbrev cause : ℕ
  cause = run_cause p faulty first later rounds (length words) places

  abbrev opening : Turn
  opening = first_turn p faulty first later 0

  abbrev turns : ℕ
  turns = turns_of p faulty first later rounds (length words) places

  pub small : cause ≡ 0 → (t : Turn) → t ≡ opening → (t.plan.n ≤ 20) × (rounds ≤ 40)
  small e t begins =
      let a = accepted_run p faulty first later rounds (length words) places e in
      subst (λ (u : Turn). (u.plan.n ≤ 20) × (rounds ≤ 40)) (sym begins) ((sound p a.plan_sound).twenty, a.forty)

  -- those of an accepted run can be played
  pub ready : cause ≡ 0 → p.n ≤ length ys → (t : Turn) → t ≡ opening → CanPlay (record_of words) t ys ((rounds + 1) * t.plan.n)
  ready e room t begins k l =
      let a = accepted_run p faulty first later rounds (length words) places e in
      let n : (rounds + 1) * t.plan.n ≡ suc rounds * p.n = λ i. add-one rounds i * (begins i).plan.n in
      turn_placed p a.plan_sound faulty first later words (list_rises first later a.first_said a.rises) a.fault ys room rounds a.forty k
      (subst (λ (m : ℕ). k < m) n l) _
      (λ i. (played_after (record_of words) (record { turn = begins i; records = ys }) k).turn)

  -- they are all its turns
  pub all_turns : cause ≡ 0 → (t : Turn) → t ≡ opening → left_after (record_of words) t ys ((rounds + 1) * t.plan.n) ≡ left_after (record_of words) opening ys turns
  all_turns e t begins =
      (λ i. left_after (record_of words) (begins i) ys ((rounds + 1) * (begins i).plan.n))
      ∙ ap (left_after (record_of words) opening ys) (turns_played p faulty first later rounds (length words) places e)

  -- a refused run has none
  pub no_turns : eqb cause 0 ≡ false → ys ≡ left_after (record_of words) opening ys turns
  unfolding played_after
  no_turns z = ap (left_after (record_of words) opening ys) (turns_refused p faulty first later rounds (length words) places cause refl z)

  -- they leave the records after the last round, or where the run is refused those that were there
  left : (after : List Record) → (cause ≡ 0 → left_after (record_of words) opening ys (suc rounds * p.n) ≡ after)
      → left_after (record_of words) opening ys turns ≡ pick (eqb cause 0) after ys
  left after walk =
      ⊎_elim
      (λ y.
      let e = eqb-true cause 0 y in
      sym (all_turns e opening refl) ∙ ap (λ (m : ℕ). left_after (record_of words) opening ys (m * p.n)) (add-one rounds) ∙ walk e ∙ sym (pick_yes _ _ _ y))
      (λ z. sym (no_turns z) ∙ sym (pick_no _ _ _ z))
      (decide (eqb cause 0))

-- ---- the array of twenty

module _ (p : Plan) (faulty first : ℕ) (later : List ℕ) (rounds : ℕ) (words : List ℕ) where
  -- where the run is accepted it has a place for each terminal
  pub array_room : (x : Record) → run_cause p faulty first later rounds (length words) p.n ≡ 0 → p.n ≤ length (replicate 20 x)
  array_room x e = let s = (sound p (accepted_run p faulty first later rounds (length words) p.n e).plan_sound).twenty in omega (arith, length-replicate 20 x)

  -- the turns leave the records that the contract says
  pub array_left : (x : Record) → x ≡ nothing_heard
      → left_after (record_of words) (first_turn p faulty first later 0) (replicate 20 x) (turns_of p faulty first later rounds (length words) p.n)
      ≡ array_after p faulty first later rounds words
  unfolding array_after table
  array_left x q =
      ap (λ (y : Record). left_after (record_of words) (first_turn p faulty first later 0) (replicate 20 y) (turns_of p faulty first later rounds (length words) p.n)) q
      ∙ left p faulty first later rounds words p.n (replicate 20 nothing_heard) (table 20 (λ b. shown (site p faulty (office_of first later) (script_of p.n words) rounds b)))
      (λ h.
      let a = accepted_run p faulty first later rounds (length words) p.n h in
      walk_array p a.plan_sound faulty first later words (list_rises first later a.first_said a.rises) a.fault rounds a.forty)

  -- of an accepted run they show, terminal by terminal, those of the rules
  pub array_at : run_cause p faulty first later rounds (length words) p.n ≡ 0 → (records : List Record) → records ≡ array_after p faulty first later rounds words
      → (b : ℕ) → b < p.n → get_or records b nothing_heard ≡ shown (site p faulty (office_of first later) (script_of p.n words) rounds b)
  unfolding array_after
  array_at e records q b k =
      let t = (sound p (accepted_run p faulty first later rounds (length words) p.n e).plan_sound).twenty in
      ap (λ (l : List Record). get_or l b nothing_heard) (q ∙ pick_yes _ _ _ (eq-eqb _ _ e))
      ∙ table_at 20 (λ b. shown (site p faulty (office_of first later) (script_of p.n words) rounds b)) nothing_heard b (omega arith)

  pub array_promised : run_cause p faulty first later rounds (length words) p.n ≡ 0 → (records : List Record)
      → records ≡ array_after p faulty first later rounds words → Demand3Holds p faulty first later rounds words records
  array_promised e records q =
      let a = accepted_run p faulty first later rounds (length words) p.n e in
      promised p faulty first later rounds words p.n records a (array_at e records q)

-- ---- the records that are lent

module _ (p : Plan) (faulty first : ℕ) (later : List ℕ) (rounds : ℕ) (words : List ℕ) (ys : List Record) where
  pub lent_room : run_cause p faulty first later rounds (length words) (length ys) ≡ 0 → p.n ≤ length ys
  lent_room e = let q = (accepted_run p faulty first later rounds (length words) (length ys) e).places_fit in omega arith

  -- the turns leave the records that the contract says
  pub lent_left : left_after (record_of words) (first_turn p faulty first later 0) ys (turns_of p faulty first later rounds (length words) (length ys))
      ≡ records_after p faulty first later rounds words ys
  unfolding records_after
  lent_left =
      left p faulty first later rounds words (length ys) ys (map shown (sites p faulty (office_of first later) (script_of p.n words) rounds))
      (λ h.
      let a = accepted_run p faulty first later rounds (length words) (length ys) h in
      walk_is p a.plan_sound faulty first later words (list_rises first later a.first_said a.rises) a.fault ys a.places_fit rounds a.forty)

  pub lent_promised : run_cause p faulty first later rounds (length words) (length ys) ≡ 0 → (records : List Record)
      → records ≡ records_after p faulty first later rounds words ys → Demand3Holds p faulty first later rounds words records
  unfolding records_after site
  lent_promised e records q =
      let a = accepted_run p faulty first later rounds (length words) (length ys) e in
      promised p faulty first later rounds words (length ys) records a
      (λ b k.
      ap (λ (l : List Record). get_or l b nothing_heard) (q ∙ pick_yes _ _ _ (eq-eqb _ _ e))
      ∙ get_or-map shown (sites p faulty (office_of first later) (script_of p.n words) rounds) b start)

-- ---- a failed plan is defeated in the run itself, by silence

pub zeros : (k j : ℕ) → ◌≡◌ {A = ℕ} (get_or (replicate k 0) j 0) 0
zeros zero j = refl
zeros (suc k) zero = refl
zeros (suc k) (suc j) = zeros k j

module _ (p : Plan) (c : cause_of p ≡ 0) (first : ℕ) (said : silent first ≡ false) (failed : (verdict p).passed ≡ false) (before : List Record) (places : length before ≡ p.n) where
  abbrev words : List ℕ
  words = silent_words p (p.n - 1)

  abbrev none : List ℕ
  none = nothing_later (p.n - 1)

  abbrev listed : ℕ
  listed = (verdict p).f

  quiet : Silent p listed (p.n - 1) (script_of p.n words)
  unfolding script_of
  quiet round sender hearer one last k m = zeros ((p.n - 1) * (p.n * p.n)) _

  -- silence rises
  none_rises : (last k : ℕ) → rising last (replicate k 0) ≡ true
  unfolding rising
  none_rises last zero = refl
  none_rises last (suc k) = pick_yes _ _ _ silent_zero ∙ none_rises last k

  called : run_cause p listed first none (p.n - 1) (length words) (length before) ≡ 0
  unfolding start_sound office_sound
  called =
      sym (cause_given p listed first none (p.n - 1) (length words) (length before) (fault_is p listed c (accepts_e p listed (verdict p).l (verdict p).r ((demand3 p c).witness failed)).fault))
      ∙ sym
      (given_played p first none (p.n - 1) (length words) (length before)
      (and_i _ _ (not_i (ne_eqb (layout_of first) 0 (said_layout first said))) (le-leb (p.n - 1) 40 (let t = (sound p c).twenty in omega arith)))
      (and_i _ _ (not_i (ne_eqb (edition_of first) 0 (said_edition first said))) (none_rises (edition_of first) (p.n - 1)))
      (fits p (p.n - 1) (length words) (length none) (length before) (length-replicate {A = ℕ} ((p.n - 1) * (p.n * p.n)) 0) (length-replicate {A = ℕ} (p.n - 1) 0) places))

  pub defeated_run : Defeated p first none words before
  defeated_run = record {
    somebody = (accepts_e p listed (verdict p).l (verdict p).r ((demand3 p c).witness failed)).r_some;
    accepted = called;
    waits = λ b k m.
        (lent_promised p listed first none (p.n - 1) words before called (records_after p listed first none (p.n - 1) words before) refl).silent failed refl quiet b k m;
  }
