-- What the walk leaves on a shared channel is the run by the rules: each turn's record shows the one of the rules, and no step of rounds 1 to 40 is refused.
-- Assumes nothing.
use Prim.Native.Nat.{ℕ, zero, suc, ◌*◌, ◌≤◌, ◌<◌}
use mathlib.Core.Path.{◌≡◌, refl, sym, ap, ap₂, ◌∙◌, fun_ext}
use mathlib.Core.Logic.{⊎_elim}
use mathlib.Core.Bool.{true, false}
use mathlib.Core.List.{List, [], map}
use native.Mathlib.Omega.{arith}
use lib.ListN.{length, get_or, take, replicate, length-map, get_or-eq_default, get_or-map}
use lib.Seq.{get_or-take, length-take-le}
use lib.Dec.{eqb}
use borrow.Author.Tests.{eq-eqb, ne_eqb}
use Rattle.sets.specs.Tests.{pick}
use Rattle.sets.specs.Tables.{table}
use Rattle.sets.specs.Sets.{mem}
use Rattle.sets.proofs.Bools.{decide, pick_yes, pick_no, no_by}
use Rattle.sets.proofs.Laws.{below_or_not}
use Rattle.sets.proofs.Tables.{table_length, table_at}
use Rattle.quorum.specs.Notice.{notice_of, layout_of}
use Rattle.terminal.specs.declared.Record.{Record}
use Rattle.terminal.specs.Rule.{View, start, says_in}
use Rattle.terminal.specs.Shown.{shown, nothing_heard}
use Rattle.terminal.specs.Channel.{shared_step, shared_cause_of, shared_record_after}
use Rattle.terminal.proofs.Shown.{shown_state}
use Rattle.terminal.proofs.Laws.{not_refused}
use Rattle.terminal.proofs.SharedChannel.{shared_none, shown_shared}
use Rattle.plan.specs.declared.Plan.{Plan}
use Rattle.plan.specs.Plan as plan
use Rattle.plan.specs.Plan.{heard_by, hears}
use Rattle.plan.proofs.Laws.{sound, tests, row_of}
use Rattle.closure.specs.FaultSet.{is_shared_fault_set}
use Rattle.propagation.specs.Run.{start_record}
use Rattle.propagation.specs.Channel.{SharedScript, shared_script_of, shared_from, shared_sites, shared_site, Layouts}
use Rattle.propagation.proofs.SharedRounds.{shared_word, shared_start_lem, shared_next, shared_faulty, shared_length}
use Rattle.propagation.proofs.Agreement.{shared_regular_at, shared_round_at, shared_source_at, shared_taken_at}
use Rattle.simulation.specs.declared.Turn.{Turn}
use Rattle.simulation.specs.Turns.{shared_in, shared_record_of, Played, played_after, first_turn, Ready}
use Rattle.simulation.proofs.Walk.{At, placed_on, walk_list, walk_twenty}

module _ (p : Plan) (checked : plan.cause_of p ≡ 0) (faulty value default : ℕ) (words : List ℕ) (fault : is_shared_fault_set p faulty ≡ true)
    (layouts : Layouts value default (shared_script_of p.n words)) where
  abbrev script : SharedScript
  script = shared_script_of p.n words

  abbrev held : ℕ → ℕ → View
  held r b = shared_site p faulty value default script r b

  abbrev here : ℕ → ℕ → Record
  here r b = shown (held r b)

  round_is : (q b : ℕ) → b < p.n → mem b faulty ≡ false → (held q b).round ≡ q
  round_is = shared_round_at p checked faulty fault value default script layouts

  -- no step of a good terminal is refused before round 40
  pub shared_cause_none : (q b m : ℕ) → q < 40 → b < p.n → mem b faulty ≡ false → m ≡ p.n
      → shared_cause_of p.n p.source p.bound b (heard_by p b) default (here q b) m ≡ 0
  shared_cause_none q b m h k g e =
      let rd : (held q b).round ≡ q = round_is q b k g in
      shared_none p.n p.source p.bound b (heard_by p b) default (here q b) m
      (not_refused p.n p.source p.bound b (heard_by p b) (held q b) (shared_regular_at p checked faulty fault value default script layouts q b k g) m
      (tests p checked).range (row_of p (tests p checked).links b k (sound p checked).twenty) (tests p checked).groups
      (omega arith) k
      (λ w y.
      shared_source_at p checked faulty fault value default script layouts q (ap (λ (x : ℕ). mem x faulty) (sym y) ∙ g) (ap (λ (x : ℕ). (held q x).state) (sym y) ∙ w))
      (λ t v w. let u = shared_taken_at p checked faulty fault value default script layouts q b k g t v w in ((let l : t ≤ q = u.0 in omega arith), u.1)) e)
      layouts.some_default

  -- what the terminal hears in its turn is what the rules say it hears
  heard_is : (t : Turn) (q b : ℕ) → t.plan ≡ p → t.faulty ≡ faulty → t.round ≡ suc q → t.at ≡ b → b < p.n
      → ((j : ℕ) → j < p.n → get_or t.spoken j 0 ≡ says_in (suc q) (here q j).state)
      → (j : ℕ) → get_or (take p.n (table 20 (shared_in t words))) j 0 ≡ shared_word p faulty value default script q b j
  unfolding shared_in shared_from shared_site
  heard_is t q b e f r a k spoken j =
      ⊎_elim
      (λ l.
      let l20 : j < 20 = let u = (sound p checked).twenty in omega arith in
      get_or-take p.n (table 20 (shared_in t words)) j 0 l ∙ table_at 20 (shared_in t words) 0 j l20
      ∙ same l)
      (λ l.
      get_or-eq_default (take p.n (table 20 (shared_in t words))) 0
      (let u : length (take p.n (table 20 (shared_in t words))) ≡ p.n =
      length-take-le p.n (table 20 (shared_in t words)) (let v = (sound p checked).twenty in omega (arith, table_length 20 (shared_in t words))) in
      omega arith)
      ∙ sym (pick_no _ _ _ (no_by (λ h. let v = (sound p checked).heard_below b j k h in absurd (omega arith)))))
      (below_or_not j p.n)
    where
      same : j < p.n → shared_in t words j ≡ shared_word p faulty value default script q b j
      same l =
          let says : get_or t.spoken j 0 ≡ says_in (suc q) (held q j).state = spoken j l ∙ ap (says_in (suc q)) (shown_state (held q j)) in
          λ i. pick (hears (e i) (a i) j) (pick (mem j (f i)) (shared_script_of (e i).n words (r i) j) (layout_of (says i))) 0

  -- the record that the turn makes is the one of the rules
  made_record : (ys : List Record) (r b : ℕ) (s : Played) → At p faulty (notice_of 1 value) [] default here ys r b s → r ≤ 40 → b < p.n
      → shared_record_of words s.turn (get_or s.records s.turn.at nothing_heard) ≡ here r b
  unfolding shared_record_of
  made_record ys r b s a h k =
      ⊎_elim
      (λ m. pick_yes _ _ _ (ap₂ mem a.at_is a.faulty_is ∙ m) ∙ ap shown (sym (shared_faulty p faulty value default script r b k m)))
      (λ g. pick_no _ _ _ (ap₂ mem a.at_is a.faulty_is ∙ g) ∙ by_round r refl g)
      (decide (mem b faulty))
    where
      by_round : (m : ℕ) → r ≡ m → mem b faulty ≡ false
          → pick (eqb s.turn.round 0) (shown (start_record s.turn.plan s.turn.first s.turn.at))
          (shared_record_after s.turn.plan.n s.turn.plan.source s.turn.plan.bound s.turn.at (heard_by s.turn.plan s.turn.at) s.turn.default
          (get_or s.records s.turn.at nothing_heard) (take s.turn.plan.n (table 20 (shared_in s.turn words))))
          ≡ here r b
      by_round zero e g =
          pick_yes _ _ _ (eq-eqb s.turn.round 0 (a.round_is ∙ e))
          ∙ ap shown
          ((λ i. start_record (a.plan_is i) (a.first_is i) (a.at_is i)) ∙ sym (shared_start_lem p faulty value default script b k g) ∙ ap (λ (x : ℕ). held x b) (sym e))
      by_round (suc q) e g =
          let rd : (held q b).round ≡ q = round_is q b k g in
          let before : get_or s.records s.turn.at nothing_heard ≡ here q b =
          ap (λ (x : ℕ). get_or s.records x nothing_heard) a.at_is ∙ a.waiting q e b (omega arith) k in
          let heard = take p.n (table 20 (shared_in s.turn words)) in
          let spoken : (j : ℕ) → j < p.n → get_or s.turn.spoken j 0 ≡ says_in (suc q) (here q j).state =
          λ j l. a.spoken_is q e j l ∙ ap (λ (x : ℕ). says_in x (here q j).state) e in
          pick_no _ _ _ (ne_eqb s.turn.round 0 (λ z. let y = a.round_is in omega arith))
          ∙ (λ i.
          shared_record_after (a.plan_is i).n (a.plan_is i).source (a.plan_is i).bound (a.at_is i) (heard_by (a.plan_is i) (a.at_is i)) (a.default_is i) (before i)
          (take (a.plan_is i).n (table 20 (shared_in s.turn words))))
          ∙ shown_shared p.n p.source p.bound b (heard_by p b) default (held q b) (shared_regular_at p checked faulty fault value default script layouts q b k g) heard (omega arith)
          (shared_cause_none q b (length heard) (omega arith) k g
          (length-take-le p.n (table 20 (shared_in s.turn words)) (let v = (sound p checked).twenty in omega (arith, table_length 20 (shared_in s.turn words)))))
          ∙ ap (λ (w : ℕ → ℕ). shown (shared_step p.n p.source p.bound b (heard_by p b) default w (held q b)))
          (fun_ext (heard_is s.turn q b a.plan_is a.faulty_is (a.round_is ∙ e) a.at_is k spoken))
          ∙ ap shown (sym (shared_next p faulty value default script q b k g) ∙ ap (λ (x : ℕ). held x b) (sym e))

  -- ---- the traversal, with these records

  pub shared_placed : (ys : List Record) → p.n ≤ length ys → (r : ℕ) → r ≤ 40 → (k : ℕ) → k < suc r * p.n → (t : Turn)
      → t ≡ (played_after (shared_record_of words) (record { turn = first_turn p faulty (notice_of 1 value) [] default; records = ys }) k).turn → Ready t (length ys)
  shared_placed = placed_on p (sound p checked).two (sound p checked).twenty faulty (notice_of 1 value) [] default (shared_record_of words) here made_record

  pub shared_walk_is : (ys : List Record) → length ys ≡ p.n → (r : ℕ) → r ≤ 40
      → (played_after (shared_record_of words) (record { turn = first_turn p faulty (notice_of 1 value) [] default; records = ys }) (suc r * p.n)).records ≡ map shown (shared_sites p faulty value default script r)
  unfolding shared_site
  shared_walk_is ys e r h =
      walk_list p (sound p checked).two (sound p checked).twenty faulty (notice_of 1 value) [] default (shared_record_of words) here made_record ys e r h (map shown (shared_sites p faulty value default script r))
      (length-map (shared_sites p faulty value default script r) shown ∙ shared_length p faulty value default script r)
      (λ b k. get_or-map shown (shared_sites p faulty value default script r) b start)

  -- the records in an array of twenty
  pub shared_walk_array : (r : ℕ) → r ≤ 40
      → (played_after (shared_record_of words) (record { turn = first_turn p faulty (notice_of 1 value) [] default; records = replicate 20 nothing_heard }) (suc r * p.n)).records ≡ table 20 (here r)
  unfolding shared_site
  shared_walk_array r h =
      walk_twenty p (sound p checked).two (sound p checked).twenty faulty (notice_of 1 value) [] default (shared_record_of words) here made_record r h
      (λ b m. ap shown (get_or-eq_default (shared_sites p faulty value default script r) start (let e = shared_length p faulty value default script r in omega arith)))
