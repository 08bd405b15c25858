-- Demand 3, issued: whatever the fault set and its words, no good terminal ever takes a notice that the office hasn't issued by then. Assumes nothing.
use Prim.Native.Nat.{ℕ, zero, suc, ◌+◌, ◌≤◌, ◌<◌}
use mathlib.Core.Path.{◌≡◌, refl, sym, ap, ◌∙◌, subst}
use mathlib.Core.Logic.{◌⊎◌, inl, inr, ⊎_elim}
use mathlib.Core.Bool.{true, false}
use native.Mathlib.Omega.{arith}
use Rattle.sets.specs.Tests.{◌and◌, ◌implies◌}
use Rattle.sets.specs.Sets.{mem, all}
use Rattle.sets.proofs.Bools.{clash, decide, and_l, and_r, implies_e, implies_no_l, implies_no_r}
use Rattle.sets.proofs.Laws.{equal_or_not, all_at, all_not}
use Rattle.quorum.specs.Notice.{edition_of, silent}
use Rattle.terminal.specs.declared.State.{State}
use Rattle.terminal.specs.declared.State.TheVariants.{Waiting, Taken}
use Rattle.terminal.specs.Rule.{View, start, source_start, holds, held_by}
use Rattle.terminal.specs.Regular.{Regular}
use Rattle.terminal.proofs.Newest.{holds_said}
use Rattle.terminal.proofs.Laws.{noted_edition, start_regular, source_start_regular, start_empty, source_start_empty, start_edition, source_start_edition, issue_state, held_taken}
use Rattle.plan.specs.declared.Plan.{Plan}
use Rattle.plan.specs.Plan.{hears}
use Rattle.plan.proofs.Laws.{Sound}
use Rattle.closure.specs.FaultSet.{enough_in, is_fault_set}
use Rattle.propagation.specs.Run.{Script, Office, last_issued, Issued, Rising, site}
use Rattle.propagation.specs.Demand3.{IssuedByThen}
use Rattle.closure.proofs.Faults.{fault_source, fault_bound, hears_enough_lem}
use Rattle.propagation.proofs.Offices.{said_some, issued_mono, last_round, last_same, last_new, round_same, round_new, last_round_lem, last_issued_lem, last_said, last_top, last_grows}
use Rattle.propagation.proofs.Steps.{step_round, source_stays, takes_why, step_state, note_said, edition_why}
use Rattle.propagation.proofs.Rounds.{word, stepped, source_at_start, other_at_start, at_other, at_quiet, at_source_issued, next_round, next_regular, next_holds, next_edition, word_good, says_why}

-- it was issued before the round
abbrev pub IssuedBefore : Office → ℕ → ℕ → Type 0
IssuedBefore office r y = (q : ℕ) × (r ≡ suc q) × Issued office q y

-- what holds of every good terminal's record after r rounds
pub record Safe (p : Plan) (faulty : ℕ) (office : Office) (r b : ℕ) (x : View) : Type 0 where
  pub round_is : x.round ≡ r
  pub regular : Regular x
  pub taken : (t y : ℕ) → x.state ≡ Taken t y → (t ≤ r) × (silent y ≡ false) × IssuedByThen p office b t y
  pub source_is : b ≡ p.source → x.state ≡ Taken (last_round office r) (last_issued office r)
  pub notes_good : (j y : ℕ) → hears p b j ≡ true → mem j faulty ≡ false → holds x y j ≡ true → IssuedBefore office r y
  pub editions_good : (j : ℕ) → hears p b j ≡ true → mem j faulty ≡ false → noted_edition x j ≤ edition_of (last_issued office r)

-- a state is waiting or taken
pub state_cases : (s : State) → (s ≡ Waiting) ⊎ ((t : ℕ) × (v : ℕ) × (s ≡ Taken t v))
state_cases Waiting = inl refl
state_cases (Taken t v) = inr (t, v, refl)

pub not_both {ℓ} : {X : Type ℓ} {s : State} {t v : ℕ} → s ≡ Waiting → s ≡ Taken t v → X
not_both {s = s} {t} {v} e q = let z : ◌≡◌ {A = ℕ} 0 1 = cc in absurd (omega arith)

pub same_time : {a c x y : ℕ} → Taken a x ≡ Taken c y → a ≡ c
same_time e = cc

pub same_held : {a c x y : ℕ} → Taken a x ≡ Taken c y → x ≡ y
same_held e = cc

module _ (p : Plan) (sound : Sound p) (faulty : ℕ) (office : Office) (rising : Rising office) (script : Script) (fault : is_fault_set p faulty ≡ true) where
  -- what the source has taken was issued in that very round
  source_taken_why : (r b : ℕ) (x : View) → b ≡ p.source → x.state ≡ Taken (last_round office r) (last_issued office r)
      → (t y : ℕ) → x.state ≡ Taken t y → (t ≤ r) × (silent y ≡ false) × IssuedByThen p office b t y
  source_taken_why r b x own s t y e =
      let tt1 : last_round office r ≡ t = same_time (sym s ∙ e) in
      let yy1 : last_issued office r ≡ y = same_held (sym s ∙ e) in (
        omega (arith, last_round_lem office r, tt1),
        ap silent (sym yy1) ∙ last_said office rising r,
        record {
          at_source = subst (λ (m : ℕ). Issued office m y) tt1 (subst (λ (m : ℕ). Issued office (last_round office r) m) yy1 (last_issued_lem office r));
          elsewhere = λ z. absurd (z own);
        },
      )

  other_safe : (b : ℕ) → (b ≡ p.source → ⊥) → Safe p faulty office 0 b start
  other_safe b z = record {
    round_is = refl;
    regular = start_regular;
    taken = λ t y e. let c : ◌≡◌ {A = ℕ} 0 1 = cc in absurd (omega arith);
    source_is = λ e. absurd (z e);
    notes_good = λ j y h g e. clash e (start_empty y j);
    editions_good = λ j h g. omega (arith, start_edition j);
  }

  source_safe : Safe p faulty office 0 p.source (source_start office.first)
  unfolding last_round last_issued
  source_safe = record {
    round_is = refl;
    regular = source_start_regular office.first;
    taken = source_taken_why 0 p.source (source_start office.first) refl refl;
    source_is = λ e. refl;
    notes_good = λ j y h g e. clash e (source_start_empty office.first y j);
    editions_good = λ j h g. omega (arith, source_start_edition office.first j);
  }

  start_safe : (b : ℕ) → b < p.n → Safe p faulty office 0 b (site p faulty office script 0 b)
  start_safe b k =
      ⊎_elim
      (λ e. subst (λ (c : ℕ). Safe p faulty office 0 c (site p faulty office script 0 c)) (sym e)
      (subst (Safe p faulty office 0 p.source) (sym (source_at_start p faulty office script sound.source_below)) source_safe))
      (λ z. subst (Safe p faulty office 0 b) (sym (other_at_start p faulty office script b k z)) (other_safe b z))
      (equal_or_not b p.source)

  -- enough neighbours cannot all be faulty, so one of them is good
  certified_good : (b : ℕ) → b < p.n → mem b faulty ≡ false → (x : View) (y : ℕ) → enough_in p (λ j. hears p b j and holds x y j) ≡ true
      → (j : ℕ) × (hears p b j ≡ true) × (mem j faulty ≡ false) × (holds x y j ≡ true)
  unfolding hears
  certified_good b k g x y m =
      ⊎_elim
      (λ every.
      clash
      (hears_enough_lem p b faulty (λ j. hears p b j and holds x y j)
      (λ j l e. (and_l _ _ e, implies_e _ _ (all_at p.n (λ j. hears p b j and holds x y j implies mem j faulty) every j l) e)) m)
      (fault_bound p faulty fault b k g))
      (λ none.
      let w = all_not p.n (λ j. hears p b j and holds x y j implies mem j faulty) none in
      let h = implies_no_l (hears p b w.0 and holds x y w.0) (mem w.0 faulty) w.2 in
      (w.0, and_l _ _ h, implies_no_r (hears p b w.0 and holds x y w.0) (mem w.0 faulty) w.2, and_r _ _ h))
      (decide (all p.n (λ j. hears p b j and holds x y j implies mem j faulty)))

  -- one round on, from what holds of all good terminals
  module _ (r : ℕ) (ih : (b : ℕ) → b < p.n → mem b faulty ≡ false → Safe p faulty office r b (site p faulty office script r b)) where
    -- what a good terminal says has been issued
    pub good_word : (b j y : ℕ) → b < p.n → hears p b j ≡ true → mem j faulty ≡ false → word p faulty office script r b j ≡ y → silent y ≡ false → Issued office r y
    good_word b j y k h g e s =
        let w = says_why (suc r) (site p faulty office script r j).state y (sym (word_good p faulty office script r b j h g) ∙ e) (said_some y s) in
        let i = (ih j (sound.heard_below b j k h) g).taken w.0 y w.1 in
        issued_mono office w.0 r y i.0 i.2.at_source

    -- and so has what is noted of it
    next_notes : (b : ℕ) → b < p.n → mem b faulty ≡ false → (j y : ℕ) → hears p b j ≡ true → mem j faulty ≡ false
        → holds (stepped p faulty office script r b) y j ≡ true → Issued office r y
    next_notes b k g j y h gj e =
        ⊎_elim
        (λ old.
        let i = (ih b k g).notes_good j y h gj old in
        let q : r ≡ suc i.0 = i.1 in
        issued_mono office i.0 r y (omega arith) i.2)
        (λ s. good_word b j y k h gj s.1 (holds_said (stepped p faulty office script r b) y j e))
        (note_said p b (word p faulty office script r b) (site p faulty office script r b) y j e)

    next_editions : (b : ℕ) → b < p.n → mem b faulty ≡ false → (j : ℕ) → hears p b j ≡ true → mem j faulty ≡ false
        → noted_edition (stepped p faulty office script r b) j ≤ edition_of (last_issued office (suc r))
    next_editions b k g j h gj =
        let up : edition_of (last_issued office r) ≤ edition_of (last_issued office (suc r)) = last_grows office rising r (suc r) (omega arith) in
        ⊎_elim (λ same. omega (arith, same, (ih b k g).editions_good j h gj, up))
        (λ s. omega (arith, s.2, last_top office rising r (word p faulty office script r b j) (good_word b j (word p faulty office script r b j) k h gj refl s.1), up))
        (edition_why p b (word p faulty office script r b) (site p faulty office script r b) j)

    -- what one other than the source takes
    next_taken : (b : ℕ) → b < p.n → mem b faulty ≡ false → (b ≡ p.source → ⊥) → (t y : ℕ) → (stepped p faulty office script r b).state ≡ Taken t y
        → (t ≤ suc r) × (silent y ≡ false) × IssuedByThen p office b t y
    next_taken b k g z t y e =
        ⊎_elim
        (λ same.
        let old = (ih b k g).taken t y (sym same ∙ e) in
        let l : t ≤ r = old.0 in (omega arith, old.1, old.2))
        (λ n.
        let rd : (site p faulty office script r b).round ≡ r = (ih b k g).round_is in
        let tt1 : (site p faulty office script r b).round + 1 ≡ t = same_time (sym n.1.state_is ∙ e) in
        let i = subst (Issued office r) (same_held (sym n.1.state_is ∙ e)) (reason b k g n.0 (takes_why p b _ _ n.0 n.1)) in (
          omega arith,
          ap silent (sym (same_held (sym n.1.state_is ∙ e))) ∙ n.1.said_something,
          record { at_source = issued_mono office r t y (omega arith) i; elsewhere = λ _. (r, omega arith, i) },
        ))
        (step_state p b (word p faulty office script r b) (site p faulty office script r b) (ih b k g).regular)
      where
        reason : (b : ℕ) → b < p.n → mem b faulty ≡ false → (x : ℕ)
            → ((hears p b p.source ≡ true) × (holds (stepped p faulty office script r b) x p.source ≡ true))
            ⊎ (enough_in p (λ j. hears p b j and holds (stepped p faulty office script r b) x j) ≡ true)
            → Issued office r x
        reason b k g x =
            ⊎_elim (λ s. next_notes b k g p.source x s.0 (fault_source p faulty fault) s.1)
            (λ m. let w = certified_good b k g (stepped p faulty office script r b) x m in next_notes b k g w.0 x w.1 w.2 w.3)

    -- the source has what the office issued last
    next_source : (b : ℕ) → b < p.n → mem b faulty ≡ false → b ≡ p.source
        → (site p faulty office script (suc r) b).state ≡ Taken (last_round office (suc r)) (last_issued office (suc r))
    next_source b k g e =
        ⊎_elim
        (λ h.
        ap (λ (x : View). x.state) (at_quiet p faulty office script r b k g h)
        ∙ source_stays p b (word p faulty office script r b) (site p faulty office script r b) e ∙ (ih b k g).source_is e
        ∙ (λ i. Taken (sym (round_same office r h) i) (sym (last_same office r h) i)))
        (λ h.
        let rd : (stepped p faulty office script r b).round ≡ suc r =
        omega (arith, step_round p b (word p faulty office script r b) (site p faulty office script r b), (ih b k g).round_is) in
        ap (λ (x : View). x.state) (at_source_issued p faulty office script r b k g e h)
        ∙ issue_state (office.later (suc r)) (stepped p faulty office script r b)
        ∙ (λ i. Taken ((rd ∙ sym (round_new office r h)) i) (sym (last_new office r h) i)))
        (decide (silent (office.later (suc r))))

    next_safe : (b : ℕ) → b < p.n → mem b faulty ≡ false → Safe p faulty office (suc r) b (site p faulty office script (suc r) b)
    next_safe b k g = record {
      round_is = omega (arith, next_round p faulty office script r b k g, (ih b k g).round_is);
      regular = next_regular p faulty office script r b k g (ih b k g).regular;
      taken =
          ⊎_elim (λ e. source_taken_why (suc r) b (site p faulty office script (suc r) b) e (next_source b k g e))
          (λ z t y e. next_taken b k g z t y (ap (λ (x : View). x.state) (sym (at_other p faulty office script r b k g z)) ∙ e))
          (equal_or_not b p.source);
      source_is = next_source b k g;
      notes_good = λ j y h gj e. (r, refl, next_notes b k g j y h gj (sym (next_holds p faulty office script r b k g y j) ∙ e));
      editions_good = λ j h gj. omega (arith, next_edition p faulty office script r b k g j, next_editions b k g j h gj);
    }

  pub safe : (r b : ℕ) → b < p.n → mem b faulty ≡ false → Safe p faulty office r b (site p faulty office script r b)
  safe zero b k g = start_safe b k
  safe (suc r) b k g = next_safe r (safe r) b k g

  -- the source holds the last notice from the round of its issue
  pub source_taken : (r : ℕ) → (site p faulty office script r p.source).state ≡ Taken (last_round office r) (last_issued office r)
  source_taken r = (safe r p.source sound.source_below (fault_source p faulty fault)).source_is refl

  -- a good terminal's state stays, or it has taken something above in this round
  pub next_state : (r b : ℕ) → b < p.n → mem b faulty ≡ false
      → ((site p faulty office script (suc r) b).state ≡ (site p faulty office script r b).state)
      ⊎ ((y : ℕ) × ((site p faulty office script (suc r) b).state ≡ Taken (suc r) y) × (held_by (site p faulty office script r b).state < edition_of y))
  next_state r b k g =
      ⊎_elim
      (λ own.
      let now = (safe (suc r) b k g).source_is own in
      let then = (safe r b k g).source_is own in
      ⊎_elim (λ h. inl (now ∙ (λ i. Taken (round_same office r h i) (last_same office r h i)) ∙ sym then))
      (λ h. inr (
        office.later (suc r),
        now ∙ (λ i. Taken (round_new office r h i) (last_new office r h i)),
        omega (arith, held_taken (site p faulty office script r b).state (last_round office r) (last_issued office r) then, rising.rises r h),
      ))
      (decide (silent (office.later (suc r)))))
      (λ z.
      let now = ap (λ (x : View). x.state) (at_other p faulty office script r b k g z) in
      let rd : (site p faulty office script r b).round + 1 ≡ suc r = omega (arith, (safe r b k g).round_is) in
      ⊎_elim (λ same. inl (now ∙ same)) (λ t. inr (t.0, now ∙ t.1.state_is ∙ ap (λ (m : ℕ). Taken m t.0) rd, t.1.above))
      (step_state p b (word p faulty office script r b) (site p faulty office script r b) (safe r b k g).regular))
      (equal_or_not b p.source)

  -- so the edition that it holds never falls
  pub held_next : (r b : ℕ) → b < p.n → mem b faulty ≡ false
      → held_by (site p faulty office script r b).state ≤ held_by (site p faulty office script (suc r) b).state
  held_next r b k g = ⊎_elim (λ e. omega (arith, ap held_by e)) (λ t. omega (arith, held_taken (site p faulty office script (suc r) b).state (suc r) t.0 t.1, t.2)) (next_state r b k g)
