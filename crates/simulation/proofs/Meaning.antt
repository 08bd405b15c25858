-- What the walk leaves is the run by the rules: each turn's record shows the one of the rules, and no step of rounds 1 to 40 is refused. Assumes nothing.
use Prim.Native.Nat.{ℕ, zero, suc, ◌+◌, ◌-◌, ◌*◌, ◌≤◌, ◌<◌}
use mathlib.Core.Path.{◌≡◌, refl, sym, ap, ap₂, ◌∙◌, subst, fun_ext}
use mathlib.Core.Logic.{⊎_elim}
use mathlib.Core.Bool.{true, false, not}
use mathlib.Core.List.{List, map}
use native.Mathlib.Omega.{arith}
use lib.Dec.{eqb}
use lib.ListN.{length, get_or, take, replicate, length-map, get_or-eq_default, get_or-map}
use lib.Seq.{get_or-take, length-take-le}
use borrow.Author.Tests.{eq-eqb, ne_eqb, eqb-true}
use Rattle.sets.specs.Tests.{◌and◌, pick}
use Rattle.sets.specs.Sets.{mem}
use Rattle.sets.proofs.Bools.{decide, and_l, and_r, not_e, pick_yes, pick_no, no_by}
use Rattle.sets.proofs.Laws.{below_or_not}
use Rattle.quorum.specs.Notice.{silent}
use Rattle.terminal.specs.declared.State.TheVariants.{Waiting, Taken}
use Rattle.terminal.specs.declared.Record.{Record}
use Rattle.terminal.specs.Rule.{View, start, says_in}
use Rattle.terminal.specs.Shown.{shown, nothing_heard}
use Rattle.terminal.specs.Answer.{cause_of, record_after, issue_cause, record_issued}
use Rattle.terminal.proofs.Shown.{shown_state}
use Rattle.terminal.proofs.Laws.{not_refused, shown_step, issue_taken, shown_issue}
use Rattle.plan.specs.declared.Plan.{Plan}
use Rattle.plan.specs.Plan as plan
use Rattle.plan.specs.Plan.{heard_by, hears}
use Rattle.plan.proofs.Laws.{sound, tests, row_of}
use Rattle.closure.specs.FaultSet.{is_fault_set}
use Rattle.propagation.specs.Run.{Script, Office, office_of, last_issued, Rising, start_record, heard_from, step_in, issued, sites, site, script_of}
use Rattle.sets.specs.Tables.{table}
use Rattle.propagation.proofs.Rounds.{word, at_start, at_next, at_faulty, sites_length}
use Rattle.sets.proofs.Tables.{table_length, table_at}
use Rattle.propagation.proofs.Offices.{last_round}
use Rattle.propagation.proofs.Steps.{step_round, source_stays}
use Rattle.propagation.proofs.Safety.{Safe, safe, source_taken, not_both}
use Rattle.simulation.specs.declared.Turn.{Turn}
use Rattle.simulation.proofs.Walk.{At, placed_on, walk_list, walk_twenty}
use Rattle.simulation.specs.Turns.{heard_where, heard_in, issued_in, record_of, Played, played_after, first_turn, Ready}

module _ (p : Plan) (checked : plan.cause_of p ≡ 0) (faulty first : ℕ) (later words : List ℕ) (up : Rising (office_of first later))
    (fault : is_fault_set p faulty ≡ true) where
  abbrev office : Office
  office = office_of first later

  abbrev script : Script
  script = script_of p.n words

  abbrev held : ℕ → ℕ → View
  held r b = site p faulty office script r b

  abbrev here : ℕ → ℕ → Record
  here r b = shown (held r b)

  abbrev safely : (r b : ℕ) → b < p.n → mem b faulty ≡ false → Safe p faulty office r b (held r b)
  safely = safe p (sound p checked) faulty office up script fault

  source_holds : (r : ℕ) → (held r p.source).state ≡ Taken (last_round office r) (last_issued office r)
  source_holds = source_taken p (sound p checked) faulty office up script fault

  -- no step of a good terminal is refused before round 40
  pub cause_none : (q b m : ℕ) → q < 40 → b < p.n → mem b faulty ≡ false → m ≡ p.n
      → cause_of p.n p.source p.bound b (heard_by p b) (here q b) m ≡ 0
  cause_none q b m h k g e =
      let s = safely q b k g in
      let rd : (held q b).round ≡ q = s.round_is in
      not_refused p.n p.source p.bound b (heard_by p b) (held q b) s.regular m (tests p checked).range (row_of p (tests p checked).links b k (sound p checked).twenty) (tests p checked).groups
      (omega arith) k
      (λ w y. not_both (subst (λ (x : ℕ). (held q x).state ≡ Waiting) y w) (source_holds q))
      (λ t v w. let u = s.taken t v w in ((let l : t ≤ q = u.0 in omega arith), u.1)) e

  -- nor is what the office issues in a round from 1 to 40: its terminal holds the notice before it
  issue_none : (q b : ℕ) (said : ℕ → ℕ) → q < 40 → b < p.n → mem b faulty ≡ false → b ≡ p.source → silent (office.later (suc q)) ≡ false
      → issue_cause (shown (step_in p b said (held q b))) (office.later (suc q)) ≡ 0
  issue_none q b said h k g e z =
      let s = safely q b k g in
      let rd : (held q b).round ≡ q = s.round_is in
      let st : (held q b).state ≡ Taken (last_round office q) (last_issued office q) = ap (λ (x : ℕ). (held q x).state) e ∙ source_holds q in
      let u = s.taken (last_round office q) (last_issued office q) st in
      let rn : (step_in p b said (held q b)).round ≡ (held q b).round + 1 = step_round p b said (held q b) in
      issue_taken (step_in p b said (held q b)) (office.later (suc q)) (omega arith) (last_round office q) (last_issued office q) (source_stays p b said (held q b) e ∙ st)
      (let l : last_round office q ≤ q = u.0 in omega arith) u.1 z (up.rises q z)

  -- what the terminal hears in its turn is what the rules say it hears
  heard_is : (t : Turn) (q b : ℕ) → t.plan ≡ p → t.faulty ≡ faulty → t.round ≡ suc q → t.at ≡ b → b < p.n
      → ((j : ℕ) → j < p.n → get_or t.spoken j 0 ≡ says_in (suc q) (here q j).state)
      → (j : ℕ) → get_or (take p.n (table 20 (heard_in t words))) j 0 ≡ word p faulty office script q b j
  unfolding heard_in heard_where heard_from site
  heard_is t q b e f r a k spoken j =
      ⊎_elim
      (λ l.
      let l20 : j < 20 = let u = (sound p checked).twenty in omega arith in
      get_or-take p.n (table 20 (heard_in t words)) j 0 l ∙ table_at 20 (heard_in t words) 0 j l20
      ∙ same l)
      (λ l.
      get_or-eq_default (take p.n (table 20 (heard_in t words))) 0
      (let u : length (take p.n (table 20 (heard_in t words))) ≡ p.n =
      length-take-le p.n (table 20 (heard_in t words)) (let v = (sound p checked).twenty in omega (arith, table_length 20 (heard_in t words))) in
      omega arith)
      ∙ sym (pick_no _ _ _ (no_by (λ h. let v = (sound p checked).heard_below b j k h in absurd (omega arith)))))
      (below_or_not j p.n)
    where
      same : j < p.n → heard_in t words j ≡ word p faulty office script q b j
      same l =
          let says : get_or t.spoken j 0 ≡ says_in (suc q) (held q j).state = spoken j l ∙ ap (says_in (suc q)) (shown_state (held q j)) in
          λ i. pick (hears (e i) (a i) j) (pick (mem j (f i)) (script_of (e i).n words (r i) j (a i)) (says i)) 0

  -- the record that the turn makes is the one of the rules
  made_record : (ys : List Record) (r b : ℕ) (s : Played) → At p faulty first later 0 here ys r b s → r ≤ 40 → b < p.n
      → record_of words s.turn (get_or s.records s.turn.at nothing_heard) ≡ here r b
  unfolding record_of record_after issued_in issued office_of
  made_record ys zero b s a h k =
      pick_yes _ _ _ (eq-eqb s.turn.round 0 a.round_is)
      ∙ ap shown ((λ i. start_record (a.plan_is i) (a.first_is i) (a.at_is i)) ∙ sym (at_start p faulty office script b k))
  made_record ys (suc q) b s a h k =
      pick_no _ _ _ (ne_eqb s.turn.round 0 (λ z. let y = a.round_is in omega arith))
      ∙ ⊎_elim
      (λ m. pick_yes _ _ _ (ap₂ mem a.at_is a.faulty_is ∙ m) ∙ ap shown (sym (at_faulty p faulty office script q b k m)))
      (λ g. pick_no _ _ _ (ap₂ mem a.at_is a.faulty_is ∙ g) ∙ written g ∙ ap shown (sym (at_next p faulty office script q b k g)))
      (decide (mem b faulty))
    where
      before : get_or s.records s.turn.at nothing_heard ≡ here q b
      before = ap (λ (x : ℕ). get_or s.records x nothing_heard) a.at_is ∙ a.waiting q refl b (omega arith) k

      heard : List ℕ
      heard = take p.n (table 20 (heard_in s.turn words))

      stepped : mem b faulty ≡ false
          → record_after s.turn.plan.n s.turn.plan.source s.turn.plan.bound s.turn.at (heard_by s.turn.plan s.turn.at)
          (get_or s.records s.turn.at nothing_heard) (take s.turn.plan.n (table 20 (heard_in s.turn words)))
          ≡ shown (step_in p b (word p faulty office script q b) (held q b))
      stepped g =
          let safe-here = safely q b k g in
          let rd : (held q b).round ≡ q = safe-here.round_is in
          (λ i.
          record_after (a.plan_is i).n (a.plan_is i).source (a.plan_is i).bound (a.at_is i) (heard_by (a.plan_is i) (a.at_is i)) (before i)
          (take (a.plan_is i).n (table 20 (heard_in s.turn words))))
          ∙ shown_step p.n p.source p.bound b (heard_by p b) (held q b) safe-here.regular heard (omega arith)
          (cause_none q b (length heard) (omega arith) k g
          (length-take-le p.n (table 20 (heard_in s.turn words)) (let v = (sound p checked).twenty in omega (arith, table_length 20 (heard_in s.turn words)))))
          ∙ ap (λ (w : ℕ → ℕ). shown (step_in p b w (held q b)))
          (fun_ext (heard_is s.turn q b a.plan_is a.faulty_is a.round_is a.at_is k (a.spoken_is q refl)))

      -- the notice of this round
      notice : get_or s.turn.later (s.turn.round - 1) 0 ≡ office.later (suc q)
      notice =
          (λ i. get_or (a.later_is i) (a.round_is i - 1) 0)
          ∙ table_at 40 (λ (i : ℕ). get_or later i 0) 0 (suc q - 1) (omega arith)

      after : View
      after = step_in p b (word p faulty office script q b) (held q b)

      -- what is issued on what is shown shows what is issued
      both : mem b faulty ≡ false
          → pick (eqb b p.source and not (silent (office.later (suc q)))) (record_issued (shown after) (office.later (suc q))) (shown after) ≡ shown (issued p office (suc q) b after)
      both g =
          ⊎_elim
          (λ t.
          pick_yes _ _ _ t
          ∙ shown_issue after (office.later (suc q))
          (issue_none q b (word p faulty office script q b) (omega arith) k g (eqb-true b p.source (and_l _ _ t)) (not_e (silent (office.later (suc q))) (and_r _ _ t)))
          ∙ ap shown (sym (pick_yes _ _ _ t)))
          (λ t. pick_no _ _ _ t ∙ ap shown (sym (pick_no _ _ _ t)))
          (decide (eqb b p.source and not (silent (office.later (suc q)))))

      written : mem b faulty ≡ false
          → issued_in s.turn
          (record_after s.turn.plan.n s.turn.plan.source s.turn.plan.bound s.turn.at (heard_by s.turn.plan s.turn.at)
          (get_or s.records s.turn.at nothing_heard) (take s.turn.plan.n (table 20 (heard_in s.turn words))))
          ≡ shown (issued p office (suc q) b after)
      written g =
          (λ i.
          pick (eqb (a.at_is i) (a.plan_is i).source and not (silent (notice i))) (record_issued (stepped g i) (notice i)) (stepped g i))
          ∙ both g

  -- ---- the traversal, with these records

  pub turn_placed : (ys : List Record) → p.n ≤ length ys → (r : ℕ) → r ≤ 40 → (k : ℕ) → k < suc r * p.n → (t : Turn)
      → t ≡ (played_after (record_of words) (record { turn = first_turn p faulty first later 0; records = ys }) k).turn → Ready t (length ys)
  turn_placed = placed_on p (sound p checked).two (sound p checked).twenty faulty first later 0 (record_of words) here made_record

  pub walk_is : (ys : List Record) → length ys ≡ p.n → (r : ℕ) → r ≤ 40
      → (played_after (record_of words) (record { turn = first_turn p faulty first later 0; records = ys }) (suc r * p.n)).records ≡ map shown (sites p faulty office script r)
  unfolding site
  walk_is ys e r h =
      walk_list p (sound p checked).two (sound p checked).twenty faulty first later 0 (record_of words) here made_record ys e r h (map shown (sites p faulty office script r))
      (length-map (sites p faulty office script r) shown ∙ sites_length p faulty office script r)
      (λ b k. get_or-map shown (sites p faulty office script r) b start)

  -- the records in an array of twenty
  pub walk_array : (r : ℕ) → r ≤ 40
      → (played_after (record_of words) (record { turn = first_turn p faulty first later 0; records = replicate 20 nothing_heard }) (suc r * p.n)).records ≡ table 20 (here r)
  unfolding site
  walk_array r h =
      walk_twenty p (sound p checked).two (sound p checked).twenty faulty first later 0 (record_of words) here made_record r h
      (λ b m. ap shown (get_or-eq_default (sites p faulty office script r) start (let e = sites_length p faulty office script r in omega arith)))
