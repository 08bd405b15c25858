-- What an accepted run on a shared channel leaves: the records of the rules, and that good terminals agree. Assumes nothing.
use Prim.Native.Nat.{ℕ, suc, ◌+◌, ◌*◌, ◌≤◌, ◌<◌}
use mathlib.Core.Path.{◌≡◌, refl, sym, ap, ◌∙◌, subst}
use mathlib.Core.Logic.{⊎_elim}
use mathlib.Core.Bool.{false}
use mathlib.Core.List.{List, [], map}
use native.Mathlib.Numerals.{add-one}
use native.Mathlib.Omega.{arith}
use lib.Dec.{eqb}
use lib.ListN.{length, get_or, replicate, length-replicate, get_or-map}
use borrow.Author.Tests.{eq-eqb, eqb-true}
use Rattle.sets.specs.Tests.{pick}
use Rattle.sets.specs.Tables.{table}
use Rattle.sets.proofs.Bools.{decide, pick_yes, pick_no}
use Rattle.sets.proofs.Tables.{table_at}
use Rattle.quorum.specs.Notice.{notice_of}
use Rattle.quorum.proofs.Notices.{layout_small}
use Rattle.terminal.specs.declared.Record.{Record}
use Rattle.terminal.specs.Rule.{start}
use Rattle.terminal.specs.Shown.{shown, nothing_heard}
use Rattle.terminal.proofs.Shown.{shown_state}
use Rattle.plan.specs.declared.Plan.{Plan}
use Rattle.plan.proofs.Laws.{sound}
use Rattle.propagation.specs.Channel.{SharedScript, shared_script_of, shared_sites, shared_site, Layouts, Agreement}
use Rattle.propagation.proofs.Agreement.{agreement}
use Rattle.simulation.specs.declared.Turn.{Turn}
use Rattle.simulation.specs.Turns.{shared_record_of, first_turn, played_after, CanPlay, left_after}
use Rattle.simulation.specs.Answer.{state_of}
use Rattle.simulation.specs.Channel.{shared_run_cause, shared_turns_of, shared_records_after, shared_array_after, AgreementHolds}
use Rattle.simulation.proofs.SharedCauses.{SharedAccepted, shared_accepted_run, shared_turns_played, shared_turns_refused}
use Rattle.simulation.proofs.SharedMeaning.{shared_cause_none, shared_placed, shared_walk_is, shared_walk_array}

-- the words of a list are layouts
pub script_small : (n : ℕ) (words : List ℕ) (round sender : ℕ) → shared_script_of n words round sender < 65536
unfolding shared_script_of
script_small n words round sender = layout_small _

module _ (p : Plan) (faulty value default rounds : ℕ) (words : List ℕ) (value-small : value < 65536) (default-small : default < 65536) where
  abbrev script : SharedScript
  script = shared_script_of p.n words

  module _ (places : ℕ) (a : SharedAccepted p faulty value default rounds (length words) places) where
    layouts : Layouts value default script
    layouts = record {
      some_value = a.some_value;
      some_default = a.some_default;
      value_small = value-small;
      default_small = default-small;
      words_small = script_small p.n words;
    }

    agrees : Agreement p
    agrees = agreement p a.plan_sound

    -- records that show, terminal by terminal, those of the rules agree
    promised : (records : List Record) → ((b : ℕ) → b < p.n → get_or records b nothing_heard ≡ shown (shared_site p faulty value default script rounds b))
        → AgreementHolds p faulty value default rounds words records
    promised records same =
        let state-same : (b : ℕ) → b < p.n → state_of records b ≡ (shared_site p faulty value default script rounds b).state =
        λ b k. ap (λ (r : Record). r.state) (same b k) ∙ shown_state (shared_site p faulty value default script rounds b) in
        record {
          agree = λ h l b g. let w = agrees.agree h faulty a.fault value default script layouts rounds b l g in (w.0, state-same b g.0 ∙ w.1);
          trusted = λ g. agrees.trusted faulty g value default script;
          safe = λ b g at x e. agrees.safe faulty a.fault value default script layouts rounds b g at x (sym (state-same b g.0) ∙ e);
          no_two = λ b c gb gc at x to y e d.
              agrees.no_two faulty a.fault value default script layouts rounds rounds b c gb gc at x to y (sym (state-same b gb.0) ∙ e) (sym (state-same c gc.0) ∙ d);
          as_trusted = λ k b l g. agrees.as_trusted faulty a.fault value default script layouts k b g;
          steps = λ k b l g. shared_cause_none p a.plan_sound faulty value default words a.fault layouts k b p.n (let f = a.forty in omega arith) g.0 g.1 refl;
        }

  abbrev opening : Turn
  opening = first_turn p faulty (notice_of 1 value) [] default

  -- ---- the turns of a run on a list that has a place for each terminal where the run is accepted

  module _ (places : ℕ) (ys : List Record) where
    abbrev cause : ℕ
    cause = shared_run_cause p faulty value default rounds (length words) places

    abbrev turns : ℕ
    turns = shared_turns_of p faulty value default rounds (length words) places

    pub shared_small : cause ≡ 0 → (t : Turn) → t ≡ opening → (t.plan.n ≤ 20) × (rounds ≤ 40)
    shared_small e t begins =
        let a = shared_accepted_run p faulty value default rounds (length words) places e in
        subst (λ (u : Turn). (u.plan.n ≤ 20) × (rounds ≤ 40)) (sym begins) ((sound p a.plan_sound).twenty, a.forty)

    -- those of an accepted run can be played
    pub shared_ready : cause ≡ 0 → p.n ≤ length ys → (t : Turn) → t ≡ opening → CanPlay (shared_record_of words) t ys ((rounds + 1) * t.plan.n)
    shared_ready e room t begins k l =
        let a = shared_accepted_run p faulty value default rounds (length words) places e in
        let n : (rounds + 1) * t.plan.n ≡ suc rounds * p.n = λ i. add-one rounds i * (begins i).plan.n in
        shared_placed p a.plan_sound faulty value default words a.fault (layouts places a) ys room rounds a.forty k
        (subst (λ (m : ℕ). k < m) n l) _
        (λ i. (played_after (shared_record_of words) (record { turn = begins i; records = ys }) k).turn)

    -- they are all its turns
    pub shared_all_turns : cause ≡ 0 → (t : Turn) → t ≡ opening
        → left_after (shared_record_of words) t ys ((rounds + 1) * t.plan.n) ≡ left_after (shared_record_of words) opening ys turns
    shared_all_turns e t begins =
        (λ i. left_after (shared_record_of words) (begins i) ys ((rounds + 1) * (begins i).plan.n))
        ∙ ap (left_after (shared_record_of words) opening ys) (shared_turns_played p faulty value default rounds (length words) places e)

    -- a refused run has none
    pub shared_no_turns : eqb cause 0 ≡ false → ys ≡ left_after (shared_record_of words) opening ys turns
    unfolding played_after
    shared_no_turns z = ap (left_after (shared_record_of words) opening ys) (shared_turns_refused p faulty value default rounds (length words) places cause refl z)

    -- they leave the records after the last round, or where the run is refused those that were there
    left : (after : List Record) → (cause ≡ 0 → left_after (shared_record_of words) opening ys (suc rounds * p.n) ≡ after)
        → left_after (shared_record_of words) opening ys turns ≡ pick (eqb cause 0) after ys
    left after walk =
        ⊎_elim
        (λ y.
        let e = eqb-true cause 0 y in
        sym (shared_all_turns e opening refl) ∙ ap (λ (m : ℕ). left_after (shared_record_of words) opening ys (m * p.n)) (add-one rounds) ∙ walk e ∙ sym (pick_yes _ _ _ y))
        (λ z. sym (shared_no_turns z) ∙ sym (pick_no _ _ _ z))
        (decide (eqb cause 0))

  -- ---- the array of twenty

  -- where the run is accepted it has a place for each terminal
  pub shared_array_room : (x : Record) → shared_run_cause p faulty value default rounds (length words) p.n ≡ 0 → p.n ≤ length (replicate 20 x)
  shared_array_room x e =
      let s = (sound p (shared_accepted_run p faulty value default rounds (length words) p.n e).plan_sound).twenty in omega (arith, length-replicate 20 x)

  -- the turns leave the records that the contract says
  pub shared_array_left : (x : Record) → x ≡ nothing_heard
      → left_after (shared_record_of words) opening (replicate 20 x) (shared_turns_of p faulty value default rounds (length words) p.n)
      ≡ shared_array_after p faulty value default rounds words
  unfolding shared_array_after table
  shared_array_left x q =
      ap (λ (y : Record). left_after (shared_record_of words) opening (replicate 20 y) (shared_turns_of p faulty value default rounds (length words) p.n)) q
      ∙ left p.n (replicate 20 nothing_heard) (table 20 (λ b. shown (shared_site p faulty value default script rounds b)))
      (λ h.
      let a = shared_accepted_run p faulty value default rounds (length words) p.n h in
      shared_walk_array p a.plan_sound faulty value default words a.fault (layouts p.n a) rounds a.forty)

  -- of an accepted run they show, terminal by terminal, those of the rules
  pub shared_array_at : shared_run_cause p faulty value default rounds (length words) p.n ≡ 0 → (records : List Record) → records ≡ shared_array_after p faulty value default rounds words
      → (b : ℕ) → b < p.n → get_or records b nothing_heard ≡ shown (shared_site p faulty value default script rounds b)
  unfolding shared_array_after
  shared_array_at e records q b k =
      let t = (sound p (shared_accepted_run p faulty value default rounds (length words) p.n e).plan_sound).twenty in
      ap (λ (l : List Record). get_or l b nothing_heard) (q ∙ pick_yes _ _ _ (eq-eqb _ _ e))
      ∙ table_at 20 (λ b. shown (shared_site p faulty value default script rounds b)) nothing_heard b (omega arith)

  pub shared_array_promised : shared_run_cause p faulty value default rounds (length words) p.n ≡ 0 → (records : List Record)
      → records ≡ shared_array_after p faulty value default rounds words → AgreementHolds p faulty value default rounds words records
  shared_array_promised e records q =
      promised p.n (shared_accepted_run p faulty value default rounds (length words) p.n e) records (shared_array_at e records q)

  -- ---- the records that are lent

  module _ (ys : List Record) where
    pub shared_lent_room : shared_run_cause p faulty value default rounds (length words) (length ys) ≡ 0 → p.n ≤ length ys
    shared_lent_room e = let q = (shared_accepted_run p faulty value default rounds (length words) (length ys) e).places_fit in omega arith

    -- the turns leave the records that the contract says
    pub shared_lent_left : left_after (shared_record_of words) opening ys (shared_turns_of p faulty value default rounds (length words) (length ys))
        ≡ shared_records_after p faulty value default rounds words ys
    unfolding shared_records_after
    shared_lent_left =
        left (length ys) ys (map shown (shared_sites p faulty value default script rounds))
        (λ h.
        let a = shared_accepted_run p faulty value default rounds (length words) (length ys) h in
        shared_walk_is p a.plan_sound faulty value default words a.fault (layouts (length ys) a) ys a.places_fit rounds a.forty)

    pub shared_lent_promised : shared_run_cause p faulty value default rounds (length words) (length ys) ≡ 0 → (records : List Record)
        → records ≡ shared_records_after p faulty value default rounds words ys → AgreementHolds p faulty value default rounds words records
    unfolding shared_records_after shared_site
    shared_lent_promised e records q =
        promised (length ys) (shared_accepted_run p faulty value default rounds (length words) (length ys) e) records
        (λ b k.
        ap (λ (l : List Record). get_or l b nothing_heard) (q ∙ pick_yes _ _ _ (eq-eqb _ _ e))
        ∙ get_or-map shown (shared_sites p faulty value default script rounds) b start)
