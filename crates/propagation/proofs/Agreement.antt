-- On a shared channel good terminals agree (document 02, P11): at each of them the run is one by the old rules in which the source is good and says what
-- was carried, and of that demand 3 holds. Assumes nothing.
use Prim.Native.Nat.{ℕ, zero, suc, ◌+◌, ◌-◌, ◌≤◌, ◌<◌}
use mathlib.Core.Path.{◌≡◌, refl, sym, ap, ◌∙◌, subst}
use mathlib.Core.Logic.{⊎_elim}
use mathlib.Core.Bool.{Bool, true, false}
use mathlib.Core.List.{List}
use native.Mathlib.Omega.{arith}
use lib.ListN.{length}
use borrow.Author.Tests.{eq-eqb, ne_eqb}
use Rattle.sets.specs.Sets.{mem}
use Rattle.sets.proofs.Bools.{clash, decide, and_i, and_no_l, not_i, pick_yes, pick_no, pick_case}
use Rattle.sets.proofs.Laws.{equal_or_not}
use Rattle.quorum.specs.Notice.{notice_of, edition_of, layout_of, silent, first_edition}
use Rattle.quorum.proofs.Notices.{edition_notice, layout_notice, silent_zero, first_silence, first_said, first_edition_le, first_notice}
use Rattle.terminal.specs.declared.State.{State}
use Rattle.terminal.specs.declared.State.TheVariants.{Waiting, Taken}
use Rattle.terminal.specs.Rule.{Spoken, View, source_start, spoken_by, step, says_in}
use Rattle.terminal.specs.Regular.{Regular}
use Rattle.terminal.specs.Channel.{first_hearing, word_or, shared_step}
use Rattle.terminal.proofs.Laws as laws
use Rattle.terminal.proofs.Laws.{noted_edition, start_regular, source_start_regular, start_edition, source_start_edition, held_waiting, held_taken}
use Rattle.terminal.proofs.Unheard.{step_view}
use Rattle.terminal.proofs.SharedChannel.{first_waits, first_deaf, first_taken, word_said, shared_round, shared_notes, shared_first, shared_else, shared_regular}
use Rattle.plan.specs.declared.Plan.{Plan}
use Rattle.plan.specs.Plan as plan
use Rattle.plan.specs.Plan.{heard_by, hears}
use Rattle.plan.proofs.Laws.{Sound, sound}
use Rattle.closure.specs.FaultSet.{is_fault_set, beside_source, is_shared_fault_set}
use Rattle.closure.specs.Verdict.{verdict}
use Rattle.closure.proofs.Faults.{fault_source, shared_below, shared_beside, mem_beside}
use Rattle.propagation.specs.Run.{Office, one_notice, start_record, last_issued, Rising, Quiet, site}
use Rattle.propagation.specs.Demand3.{Good}
use Rattle.propagation.specs.Channel.{SharedScript, shared_site, carried, to_all, AsTrusted, Layouts, Agreement}
use Rattle.propagation.proofs.Offices.{one_rises}
use Rattle.propagation.proofs.Steps.{spoken_noted, holds_source}
use Rattle.propagation.proofs.Rounds.{word, stepped, source_at_start, other_at_start, at_start, at_quiet, word_good, word_faulty, says_then_at, says_why}
use Rattle.propagation.proofs.Safety.{Safe, state_cases, not_both, safe, source_taken, next_state}
use Rattle.propagation.proofs.Demand3.{demand3}
use Rattle.propagation.proofs.SharedRounds.{shared_word, shared_start_lem, shared_next, shared_good, shared_bad, shared_small}

module _ (p : Plan) (checked : plan.cause_of p ≡ 0) (faulty : ℕ) (fault : is_shared_fault_set p faulty ≡ true) (value default : ℕ) (script : SharedScript)
    (layouts : Layouts value default script) where
  abbrev whole : Sound p
  whole = sound p checked

  -- ---- what is carried

  abbrev layout : ℕ
  layout = carried p faulty value default script

  abbrev notice : ℕ
  notice = notice_of 1 layout

  carried_good : mem p.source faulty ≡ false → layout ≡ value
  unfolding carried
  carried_good g = pick_no _ _ _ g

  carried_bad : mem p.source faulty ≡ true → layout ≡ word_or default (script 1 p.source)
  unfolding carried
  carried_bad g = pick_yes _ _ _ g

  layout_is : (layout < 65536) × (layout ≡ 0 → ⊥)
  unfolding carried word_or
  layout_is =
      pick_case (λ (x : ℕ). (x < 65536) × (x ≡ 0 → ⊥)) (mem p.source faulty) (word_or default (script 1 p.source)) value
      (λ m.
      ⊎_elim (λ z. subst (λ (x : ℕ). (x < 65536) × (x ≡ 0 → ⊥)) (sym (pick_yes _ _ _ (eq-eqb (script 1 p.source) 0 z))) (layouts.default_small, layouts.some_default))
      (λ z. subst (λ (x : ℕ). (x < 65536) × (x ≡ 0 → ⊥)) (sym (word_said default (script 1 p.source) z)) (layouts.words_small 1 p.source, z))
      (equal_or_not (script 1 p.source) 0))
      (λ m. (layouts.value_small, layouts.some_value))

  edition_one : edition_of notice ≡ 1
  edition_one = edition_notice 1 layout layout_is.0

  said_something : silent notice ≡ false
  said_something = first_notice layout layout_is.0 layout_is.1

  -- ---- the run by the old rules

  abbrev others : ℕ
  others = beside_source p faulty

  abbrev office : Office
  office = one_notice notice

  rises : Rising office
  rises = one_rises notice said_something

  trusts : is_fault_set p others ≡ true
  trusts = shared_beside p faulty fault

  abbrev old : ℕ → ℕ → View
  old r b = site p others office (to_all script) r b

  old_safe : (r b : ℕ) → b < p.n → mem b others ≡ false → Safe p others office r b (old r b)
  old_safe = safe p whole others office rises (to_all script) trusts

  quiet : (r : ℕ) → Quiet office 0 r
  quiet r k a b = silent_zero

  -- a terminal is bad in both runs, but for the source
  beside_good : (b : ℕ) → mem b faulty ≡ false → mem b others ≡ false
  beside_good b g = mem_beside p faulty (shared_below p faulty fault) b ∙ and_no_l _ _ g

  beside_bad : (b : ℕ) → mem b faulty ≡ true → (b ≡ p.source → ⊥) → mem b others ≡ true
  beside_bad b g z = mem_beside p faulty (shared_below p faulty fault) b ∙ and_i _ _ g (not_i (ne_eqb b p.source z))

  -- whatever a good terminal holds there is what was carried
  old_holds : (r b : ℕ) → b < p.n → mem b others ≡ false → (t x : ℕ) → (old r b).state ≡ Taken t x → x ≡ notice
  old_holds r b k g t x e = (demand3 p checked).safe office rises others trusts (to_all script) r b (quiet r) (k, g) t x e

  -- it never takes again
  old_stays : (r b t : ℕ) → b < p.n → mem b others ≡ false → (old r b).state ≡ Taken t notice → (old (suc r) b).state ≡ (old r b).state
  old_stays r b t k g e =
      ⊎_elim (λ s. s)
      (λ s.
      absurd (omega (arith, held_taken (old r b).state t notice e, s.2, ap edition_of (old_holds (suc r) b k g (suc r) s.0 s.1))))
      (next_state p whole others office rises (to_all script) trusts r b k g)

  -- whoever hears the source takes in round 1
  old_first : (b : ℕ) → b < p.n → mem b others ≡ false → (b ≡ p.source → ⊥) → hears p b p.source ≡ true → (old 1 b).state ≡ Taken 1 notice
  old_first b k g z h =
      let next = at_quiet p others office (to_all script) 0 b k g silent_zero in
      let here = old_safe 0 b k g in
      let said : word p others office (to_all script) 0 b p.source ≡ notice =
      word_good p others office (to_all script) 0 b p.source h (fault_source p others trusts)
      ∙ says_then_at 0 0 notice (old 0 p.source).state (ap (λ (x : View). x.state) (source_at_start p others office (to_all script) whole.source_below)) refl in
      let start_is = other_at_start p others office (to_all script) b k z in
      let noted = spoken_noted p b (word p others office (to_all script) 0 b) (old 0 b) p.source whole.source_below
      (omega (arith, here.regular.room, whole.source_below, whole.twenty)) h (ap silent said ∙ said_something)
      (omega (arith, ap (λ (x : View). noted_edition x p.source) start_is, start_edition p.source)) in
      let held = holds_source p b (word p others office (to_all script) 0 b) (old 0 b) here.regular z whole.source_below h (word p others office (to_all script) 0 b p.source) noted in
      ⊎_elim
      (λ w.
      absurd (omega (arith, held, ap edition_of said, edition_one, held_waiting (stepped p others office (to_all script) 0 b).state (ap (λ (x : View). x.state) (sym next) ∙ w))))
      (λ w.
      let t = (old_safe 1 b k g).taken w.0 w.1 w.2 in
      let from = t.2.elsewhere z in
      w.2 ∙ (λ i. Taken ((let one : w.0 ≡ 1 = omega (arith, t.0, from.1) in one) i) (old_holds 1 b k g w.0 w.1 w.2 i)))
      (state_cases (old 1 b).state)

  -- ---- the shared run beside it

  abbrev new : ℕ → ℕ → View
  new r b = shared_site p faulty value default script r b

  record Alike (r b : ℕ) : Type 0 where
    state : (new r b).state ≡ (old r b).state
    round : (new r b).round ≡ (old r b).round
    regular : Regular (new r b)
    spoken : (j : ℕ) → (j ≡ p.source → ⊥) → spoken_by (new r b).notes j ≡ spoken_by (old r b).notes j
    low : (j : ℕ) → noted_edition (new r b) j ≤ 1
    took : (q : ℕ) → r ≡ suc q → (b ≡ p.source → ⊥) → hears p b p.source ≡ true → (old r b).state ≡ Taken 1 notice

  start_alike : (b : ℕ) → b < p.n → mem b faulty ≡ false → Alike 0 b
  unfolding start_record
  start_alike b k g =
      ⊎_elim
      (λ e.
      let n = shared_start_lem p faulty value default script b k g ∙ pick_yes _ _ _ (eq-eqb b p.source e) in
      let o = at_start p others office (to_all script) b k ∙ pick_yes _ _ _ (eq-eqb b p.source e) in
      let same : layout ≡ value = carried_good (ap (λ (x : ℕ). mem x faulty) (sym e) ∙ g) in
      let both : new 0 b ≡ old 0 b = n ∙ ap (λ (x : ℕ). source_start (notice_of 1 x)) (sym same) ∙ sym o in
      from both (subst Regular (sym n) (source_start_regular (notice_of 1 value))) (λ j. omega (arith, ap (λ (x : View). noted_edition x j) n, source_start_edition (notice_of 1 value) j)))
      (λ z.
      let n = shared_start_lem p faulty value default script b k g ∙ pick_no _ _ _ (ne_eqb b p.source z) in
      let o = at_start p others office (to_all script) b k ∙ pick_no _ _ _ (ne_eqb b p.source z) in
      from (n ∙ sym o) (subst Regular (sym n) start_regular) (λ j. omega (arith, ap (λ (x : View). noted_edition x j) n, start_edition j)))
      (equal_or_not b p.source)
    where
      from : new 0 b ≡ old 0 b → Regular (new 0 b) → ((j : ℕ) → noted_edition (new 0 b) j ≤ 1) → Alike 0 b
      from both reg low = record {
        state = ap (λ (x : View). x.state) both;
        round = ap (λ (x : View). x.round) both;
        regular = reg;
        spoken = λ j z. ap (λ (x : View). spoken_by x.notes j) both;
        low = low;
        took = λ q e. absurd (omega arith);
      }

  nothing : first_edition (layout_of 0) ≡ 0
  unfolding layout_of
  nothing = first_silence

  -- one round on, from what holds of all good terminals
  module _ (r : ℕ) (ih : (b : ℕ) → b < p.n → mem b faulty ≡ false → Alike r b) where
    -- what a good terminal says there counts here for the same
    says_same : (j : ℕ) → j < p.n → mem j faulty ≡ false → first_edition (layout_of (says_in (suc r) (new r j).state)) ≡ says_in (suc r) (old r j).state
    says_same j l g =
        ap (λ (s : State). first_edition (layout_of (says_in (suc r) s))) (ih j l g).state
        ∙ ⊎_elim
        (λ z. ap (λ (x : ℕ). first_edition (layout_of x)) z ∙ nothing ∙ sym z)
        (λ z.
        let w = says_why (suc r) (old r j).state (says_in (suc r) (old r j).state) refl z in
        let e : says_in (suc r) (old r j).state ≡ notice = old_holds r j l (beside_good j g) w.0 (says_in (suc r) (old r j).state) w.1 in
        ap (λ (x : ℕ). first_edition (layout_of x)) e ∙ ap first_edition (layout_notice 1 layout layout_is.0) ∙ first_said layout layout_is.1 ∙ sym e)
        (equal_or_not (says_in (suc r) (old r j).state) 0)

    module _ (b : ℕ) (k : b < p.n) (g : mem b faulty ≡ false) where
      abbrev said : ℕ → ℕ
      said j = first_edition (shared_word p faulty value default script r b j)

      abbrev heard_old : ℕ → ℕ
      heard_old = word p others office (to_all script) r b

      abbrev plain : View
      plain = step p.n p.source p.bound b (heard_by p b) said (new r b)

      good : mem b others ≡ false
      good = beside_good b g

      word_same : (j : ℕ) → (j ≡ p.source → ⊥) → hears p b j ≡ true → said j ≡ heard_old j
      word_same j z h =
          ⊎_elim
          (λ m. ap first_edition (shared_bad p faulty value default script r b j h m) ∙ sym (word_faulty p others office (to_all script) r b j h (beside_bad j m z)))
          (λ m.
          ap first_edition (shared_good p faulty value default script r b j h m) ∙ says_same j (whole.heard_below b j k h) m
          ∙ sym (word_good p others office (to_all script) r b j h (beside_good j m)))
          (decide (mem j faulty))

      next_new : new (suc r) b ≡ shared_step p.n p.source p.bound b (heard_by p b) default (shared_word p faulty value default script r b) (new r b)
      next_new = shared_next p faulty value default script r b k g

      next_old : old (suc r) b ≡ stepped p others office (to_all script) r b
      next_old = at_quiet p others office (to_all script) r b k good silent_zero

      lengths : length (new r b).notes ≡ length (old r b).notes
      lengths = (ih b k g).regular.room ∙ sym (old_safe r b k good).regular.room

      notes_new : (j : ℕ) → spoken_by (new (suc r) b).notes j ≡ spoken_by plain.notes j
      notes_new j =
          ap (λ (x : View). spoken_by x.notes j) next_new
          ∙ ap (λ (x : List Spoken). spoken_by x j) (shared_notes p.n p.source p.bound b (heard_by p b) default (shared_word p faulty value default script r b) (new r b))

      next_spoken : (j : ℕ) → (j ≡ p.source → ⊥) → spoken_by (new (suc r) b).notes j ≡ spoken_by (old (suc r) b).notes j
      unfolding hears
      next_spoken j z =
          notes_new j
          ∙ laws.step_agree p.n p.source p.bound b (heard_by p b) said heard_old (new r b) (old r b) lengths j ((ih b k g).spoken j z) (word_same j z)
          ∙ ap (λ (x : View). spoken_by x.notes j) (sym next_old)

      plain_low : (j : ℕ) → noted_edition plain j ≤ 1
      plain_low j =
          ⊎_elim (λ e. omega (arith, e, (ih b k g).low j))
          (λ e. omega (arith, e.2, first_edition_le (shared_word p faulty value default script r b j) (shared_small p faulty value default script layouts.words_small r b j)))
          (laws.edition_why p.n p.source p.bound b (heard_by p b) said (new r b) j)

      -- ---- the state

      abbrev first_here : Bool
      first_here = first_hearing (new r b).state (new r b).round (mem p.source (heard_by p b))

      else_state : first_here ≡ false → (new (suc r) b).state ≡ plain.state
      else_state f =
          ap (λ (x : View). x.state)
          (next_new ∙ shared_else p.n p.source p.bound b (heard_by p b) default (shared_word p faulty value default script r b) (new r b) f)

      -- the source takes nothing
      state_source : b ≡ p.source → (new (suc r) b).state ≡ (old (suc r) b).state
      unfolding hears
      state_source e =
          else_state (first_deaf (new r b).state (new r b).round (mem p.source (heard_by p b)) (ap (λ (x : ℕ). mem x (heard_by p b)) (sym e) ∙ whole.heard_other b k))
          ∙ laws.source_stays p.n p.source p.bound b (heard_by p b) said (new r b) e ∙ (ih b k g).state
          ∙ sym (ap (λ (x : View). x.state) next_old ∙ laws.source_stays p.n p.source p.bound b (heard_by p b) heard_old (old r b) e)

      -- one who does not hear the source: all that it hears is the same
      state_apart : (b ≡ p.source → ⊥) → hears p b p.source ≡ false → (new (suc r) b).state ≡ (old (suc r) b).state
      unfolding hears
      state_apart z h =
          let other : (j : ℕ) → mem j (heard_by p b) ≡ true → j ≡ p.source → ⊥ = λ j m e. clash (ap (λ (x : ℕ). mem x (heard_by p b)) (sym e) ∙ m) h in
          else_state (first_deaf (new r b).state (new r b).round (mem p.source (heard_by p b)) h)
          ∙ (step_view p.n p.source p.bound b (heard_by p b) said heard_old (λ j m. word_same j (other j m) m) (new r b) (old r b)
          (record { state = (ih b k g).state; round = (ih b k g).round; long = lengths; spoken = λ j m. (ih b k g).spoken j (other j m) })).state
          ∙ ap (λ (x : View). x.state) (sym next_old)

      -- one who hears the source, after round 1: it has taken, and nothing is above that
      state_later : (q : ℕ) → r ≡ suc q → (b ≡ p.source → ⊥) → hears p b p.source ≡ true → (new (suc r) b).state ≡ (old (suc r) b).state
      state_later q e z h =
          let held = (ih b k g).took q e z h in
          let here : (new r b).state ≡ Taken 1 notice = (ih b k g).state ∙ held in
          else_state (first_taken (new r b).state (new r b).round (mem p.source (heard_by p b)) 1 notice here)
          ∙ laws.held_stays p.n p.source p.bound b (heard_by p b) said (new r b) (ih b k g).regular
          (λ j. omega (arith, plain_low j, held_taken (new r b).state 1 notice here, edition_one))
          ∙ (ih b k g).state ∙ sym (old_stays r b 1 k good held)

      -- and in round 1: it takes what was carried
      state_first : r ≡ 0 → (b ≡ p.source → ⊥) → hears p b p.source ≡ true → (new (suc r) b).state ≡ Taken 1 notice
      unfolding hears
      state_first e z h =
          let waits : (old r b).state ≡ Waiting = ap (λ (m : ℕ). (old m b).state) e ∙ ap (λ (x : View). x.state) (other_at_start p others office (to_all script) b k z) in
          let rd : (new r b).round ≡ 0 = (ih b k g).round ∙ (old_safe r b k good).round_is ∙ e in
          ap (λ (x : View). x.state) next_new
          ∙ shared_first p.n p.source p.bound b (heard_by p b) default (shared_word p faulty value default script r b) (new r b)
          (first_waits (new r b).state (new r b).round (mem p.source (heard_by p b)) ((ih b k g).state ∙ waits) rd h)
          ∙ (λ i. Taken ((let one : (new r b).round + 1 ≡ 1 = omega (arith, rd) in one) i) (notice_of 1 (word_carried i)))
        where
          word_carried : word_or default (shared_word p faulty value default script r b p.source) ≡ layout
          word_carried =
              ⊎_elim
              (λ m.
              ap (word_or default) (shared_bad p faulty value default script r b p.source h m ∙ ap (λ (x : ℕ). script (suc x) p.source) e)
              ∙ sym (carried_bad m))
              (λ m.
              let here = ih p.source whole.source_below m in
              let says : says_in (suc r) (new r p.source).state ≡ notice =
              ap (says_in (suc r)) here.state ∙ says_then_at r 0 notice (old r p.source).state
              (ap (λ (x : ℕ). (old x p.source).state) e ∙ ap (λ (x : View). x.state) (source_at_start p others office (to_all script) whole.source_below)) (sym e) in
              ap (word_or default) (shared_good p faulty value default script r b p.source h m ∙ ap layout_of says ∙ layout_notice 1 layout layout_is.0)
              ∙ word_said default layout layout_is.1)
              (decide (mem p.source faulty))

      next_took : (b ≡ p.source → ⊥) → hears p b p.source ≡ true → (old (suc r) b).state ≡ Taken 1 notice
      next_took z h =
          by_round r refl
        where
          by_round : (m : ℕ) → r ≡ m → (old (suc r) b).state ≡ Taken 1 notice
          by_round zero e = ap (λ (x : ℕ). (old (suc x) b).state) e ∙ old_first b k good z h
          by_round (suc q) e = let held = (ih b k g).took q e z h in old_stays r b 1 k good held ∙ held

      next_state_same : (new (suc r) b).state ≡ (old (suc r) b).state
      next_state_same =
          ⊎_elim state_source
          (λ z. ⊎_elim (λ h. by_round z h r refl) (state_apart z) (decide (hears p b p.source)))
          (equal_or_not b p.source)
        where
          by_round : (b ≡ p.source → ⊥) → hears p b p.source ≡ true → (m : ℕ) → r ≡ m → (new (suc r) b).state ≡ (old (suc r) b).state
          by_round z h zero e = state_first e z h ∙ sym (next_took z h)
          by_round z h (suc q) e = state_later q e z h

      next_alike : Alike (suc r) b
      next_alike = record {
        state = next_state_same;
        round =
            ap (λ (x : View). x.round) next_new
            ∙ shared_round p.n p.source p.bound b (heard_by p b) default (shared_word p faulty value default script r b) (new r b)
            ∙ laws.step_round p.n p.source p.bound b (heard_by p b) said (new r b) ∙ ap (λ (m : ℕ). m + 1) (ih b k g).round
            ∙ sym (ap (λ (x : View). x.round) next_old ∙ laws.step_round p.n p.source p.bound b (heard_by p b) heard_old (old r b));
        regular =
            subst Regular (sym next_new)
            (shared_regular p.n p.source p.bound b (heard_by p b) default (shared_word p faulty value default script r b) (new r b) (ih b k g).regular);
        spoken = next_spoken;
        low = λ j. omega (arith, plain_low j, ap (λ (x : Spoken). x.edition) (notes_new j));
        took = λ q e. next_took;
      }

  alike : (r b : ℕ) → b < p.n → mem b faulty ≡ false → Alike r b
  alike zero b k g = start_alike b k g
  alike (suc r) b k g = next_alike r (alike r) b k g

  pub shared_as_trusted : (r b : ℕ) → Good p faulty b → AsTrusted p faulty value default script r b
  shared_as_trusted r b g = let a = alike r b g.0 g.1 in record { state = a.state; round = a.round; notes = a.spoken }

  -- what the code needs of a record: its round, and that steps have made it
  pub shared_regular_at : (r b : ℕ) → b < p.n → mem b faulty ≡ false → Regular (shared_site p faulty value default script r b)
  shared_regular_at r b k g = (alike r b k g).regular

  pub shared_round_at : (r b : ℕ) → b < p.n → mem b faulty ≡ false → (shared_site p faulty value default script r b).round ≡ r
  shared_round_at r b k g = (alike r b k g).round ∙ (old_safe r b k (beside_good b g)).round_is

  -- a good source has taken, and what is taken is no silence and was taken by then
  pub shared_source_at : (r : ℕ) → mem p.source faulty ≡ false → (shared_site p faulty value default script r p.source).state ≡ Waiting → ⊥
  shared_source_at r g w =
      not_both (sym (alike r p.source whole.source_below g).state ∙ w) (source_taken p whole others office rises (to_all script) trusts r)

  pub shared_taken_at : (r b : ℕ) → b < p.n → mem b faulty ≡ false → (t x : ℕ) → (shared_site p faulty value default script r b).state ≡ Taken t x
      → (t ≤ r) × (silent x ≡ false)
  shared_taken_at r b k g t x e =
      let s = (old_safe r b k (beside_good b g)).taken t x (sym (alike r b k g).state ∙ e) in (s.0, s.1)

  -- ---- the claims

  shared_safe : (r b : ℕ) → Good p faulty b → (at x : ℕ) → (shared_site p faulty value default script r b).state ≡ Taken at x → x ≡ notice
  shared_safe r b g at x e = old_holds r b g.0 (beside_good b g.1) at x (sym (alike r b g.0 g.1).state ∙ e)

  shared_agree : (verdict p).passed ≡ true → (r b : ℕ) → p.n - 1 ≤ r → Good p faulty b
      → (at : ℕ) × ((shared_site p faulty value default script r b).state ≡ Taken at notice)
  unfolding last_issued
  shared_agree h r b l g =
      let a = (demand3 p checked).last h office rises others trusts (to_all script) 0 r b (omega arith) (quiet r) (g.0, beside_good b g.1) in
      (a.0, (alike r b g.0 g.1).state ∙ a.1)

pub agreement : (p : Plan) → plan.cause_of p ≡ 0 → Agreement p
unfolding carried
agreement p checked = record {
  as_trusted = λ faulty f value default script ls. shared_as_trusted p checked faulty f value default script ls;
  agree = λ h faulty f value default script ls r b l g. shared_agree p checked faulty f value default script ls h r b l g;
  trusted = λ faulty g value default script. pick_no _ _ _ g;
  safe = λ faulty f value default script ls. shared_safe p checked faulty f value default script ls;
  no_two = λ faulty f value default script ls r q b c gb gc at x to y e d.
      shared_safe p checked faulty f value default script ls r b gb at x e ∙ sym (shared_safe p checked faulty f value default script ls q c gc to y d);
}
