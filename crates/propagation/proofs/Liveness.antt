-- Demand 3, last: with the last notice issued in a round, turn k of the closure matches the k-th round after it, whatever the fault set says. Assumes nothing.
use Prim.Native.Nat.{ℕ, zero, suc, ◌+◌, ◌≤◌, ◌<◌}
use mathlib.Core.Path.{◌≡◌, sym, ap, ◌∙◌, subst, refl}
use mathlib.Core.Logic.{⊎_elim}
use mathlib.Core.Bool.{true, false}
use native.Mathlib.Nat.{eq-or-lt_of_le, le_of_suc-le-suc}
use native.Mathlib.Omega.{arith}
use Rattle.sets.specs.Tests.{◌and◌}
use Rattle.sets.specs.Sets.{mem}
use Rattle.sets.proofs.Bools.{and_i}
use Rattle.sets.proofs.Laws.{mem_below, equal_or_not}
use Rattle.quorum.specs.Notice.{edition_of, silent}
use Rattle.quorum.proofs.Notices.{said_edition}
use Rattle.terminal.specs.declared.State.TheVariants.{Taken}
use Rattle.terminal.specs.Rule.{View, holds, held_by}
use Rattle.terminal.specs.Regular.{Regular}
use Rattle.plan.specs.declared.Plan.{Plan}
use Rattle.plan.specs.Plan.{hears}
use Rattle.plan.proofs.Laws.{Sound}
use Rattle.closure.specs.FaultSet.{is_fault_set}
use Rattle.closure.specs.Closure.{joins, reached_after}
use Rattle.propagation.specs.Run.{Script, Office, last_issued, Issued, Rising, site}
use Rattle.closure.proofs.Faults.{fault_source, hears_enough_of}
use Rattle.closure.proofs.Growth.{joins_why, after_below, after_why, after_good, first_only}
use Rattle.terminal.proofs.Laws.{held_waiting, held_taken}
use Rattle.propagation.proofs.Offices.{issued_mono, last_round, last_by, last_said, last_top, last_only, last_grows}
use Rattle.propagation.proofs.Steps.{holds_source, holds_votes, note_stays, spoken_noted}
use Rattle.propagation.proofs.Rounds.{word, stepped, at_other, next_holds, word_good, says_then_at}
use Rattle.propagation.proofs.Safety.{safe, source_taken, good_word, next_state, state_cases}

module _ (p : Plan) (sound : Sound p) (faulty : ℕ) (office : Office) (rising : Rising office) (script : Script) (fault : is_fault_set p faulty ≡ true) where
  had_taken : (k b t y : ℕ) → b < p.n → mem b faulty ≡ false → t ≤ k
      → (site p faulty office script (suc k) b).state ≡ Taken t y → (site p faulty office script k b).state ≡ Taken t y
  had_taken k b t y lb g l e =
      ⊎_elim (λ same. sym same ∙ e) (λ w. let now : Taken (suc k) w.0 ≡ Taken t y = sym w.1 ∙ e in let late : suc k ≡ t = cc in absurd (omega arith))
      (next_state p sound faulty office rising script fault k b lb g)

  -- up to round r nothing is above the last notice that is issued by then
  module _ (r : ℕ) where
    abbrev x : ℕ
    x = last_issued office r

    top : (k y : ℕ) → k ≤ r → Issued office k y → edition_of y ≤ edition_of x
    top k y l i = last_top office rising r y (issued_mono office k r y l i)

    -- whoever holds its edition holds it
    held_last : (k b : ℕ) → k ≤ r → b < p.n → mem b faulty ≡ false → edition_of x ≤ held_by (site p faulty office script k b).state
        → (t : ℕ) × ((site p faulty office script k b).state ≡ Taken t x)
    held_last k b l lb g up =
        ⊎_elim (λ w. absurd (said_edition x (last_said office rising r) (omega (arith, held_waiting (site p faulty office script k b).state w, up))))
        (λ w.
        let i = (safe p sound faulty office rising script fault k b lb g).taken w.0 w.1 w.2 in
        let early : w.0 ≤ k = i.0 in
        (w.0, w.2 ∙ ap (Taken w.0) (last_only office rising r w.1 (issued_mono office w.0 r w.1 (omega arith) i.2.at_source) (omega (arith, held_taken (site p faulty office script k b).state w.0 w.1 w.2, up)))))
        (state_cases (site p faulty office script k b).state)

    -- and keeps it
    keeps : (k b t : ℕ) → suc k ≤ r → b < p.n → mem b faulty ≡ false
        → (site p faulty office script k b).state ≡ Taken t x → (site p faulty office script (suc k) b).state ≡ Taken t x
    keeps k b t l lb g e =
        ⊎_elim (λ same. same ∙ e)
        (λ w.
        let i = (safe p sound faulty office rising script fault (suc k) b lb g).taken (suc k) w.0 w.1 in
        absurd (omega (arith, held_taken (site p faulty office script k b).state t x e, w.2, top (suc k) w.0 l i.2.at_source)))
        (next_state p sound faulty office rising script fault k b lb g)

    -- a terminal has it from each good neighbour that took it before
    has_heard : (k b j t : ℕ) → k ≤ r → b < p.n → mem b faulty ≡ false → hears p b j ≡ true → mem j faulty ≡ false
        → (site p faulty office script k j).state ≡ Taken t x → t < k → holds (site p faulty office script k b) x j ≡ true
    has_heard zero b j t m lb g h gj e l = absurd (omega arith)
    has_heard (suc k) b j t m lb g h gj e l =
        let lj = sound.heard_below b j lb h in
        let then = had_taken k j t x lj gj (le_of_suc-le-suc l) e in
        let s = safe p sound faulty office rising script fault k b lb g in
        next_holds p faulty office script k b lb g x j
        ∙ ⊎_elim
        (λ now.
        let say : word p faulty office script k b j ≡ x =
        word_good p faulty office script k b j h gj ∙ says_then_at k t x (site p faulty office script k j).state then now in
        subst (λ (y : ℕ). holds (stepped p faulty office script k b) y j ≡ true) say
        (spoken_noted p b (word p faulty office script k b) (site p faulty office script k b) j lj
        (let room = s.regular.room in let twenty = sound.twenty in omega arith) h (ap silent say ∙ last_said office rising r)
        (omega (arith, s.editions_good j h gj, last_grows office rising k r (omega arith), ap edition_of say))))
        (λ before.
        note_stays p b (word p faulty office script k b) (site p faulty office script k b) x j
        (λ said.
        top k (word p faulty office script k b j) (omega arith)
        (good_word p sound faulty office rising script fault k (safe p sound faulty office rising script fault k) b j (word p faulty office script k b j) lb h gj refl said))
        (has_heard k b j t (omega arith) lb g h gj then before))
        (eq-or-lt_of_le (le_of_suc-le-suc l))

    pub told : (k b j t : ℕ) → suc k ≤ r → b < p.n → mem b faulty ≡ false → hears p b j ≡ true → mem j faulty ≡ false
        → (site p faulty office script k j).state ≡ Taken t x → holds (stepped p faulty office script k b) x j ≡ true
    told k b j t l lb g h gj e =
        let lj = sound.heard_below b j lb h in
        let early : t ≤ k = ((safe p sound faulty office rising script fault k j lj gj).taken t x e).0 in
        sym (next_holds p faulty office script k b lb g x j) ∙ has_heard (suc k) b j t l lb g h gj (keeps k j t l lj gj e) (omega arith)

    -- who hears the source, or enough that hold it, holds it a round later
    joins_holds : (m s b : ℕ) → suc m ≤ r → b < p.n → mem b faulty ≡ false → (b ≡ p.source → ⊥)
        → ((t : ℕ) × ((site p faulty office script m p.source).state ≡ Taken t x))
        → ((j : ℕ) → mem j s ≡ true → (mem j faulty ≡ false) × ((t : ℕ) × ((site p faulty office script m j).state ≡ Taken t x)))
        → joins p faulty s b ≡ true → (t : ℕ) × ((site p faulty office script (suc m) b).state ≡ Taken t x)
    joins_holds m s b l lb g z first held j =
        held_last (suc m) b l lb g
        (subst (λ (v : View). edition_of x ≤ held_by v.state) (sym (at_other p faulty office script m b lb g z))
        (⊎_elim
        (λ h.
        holds_source p b (word p faulty office script m b) (site p faulty office script m b) regular z sound.source_below h x
        (told m b p.source first.0 l lb g h (fault_source p faulty fault) first.1))
        (λ h.
        holds_votes p b (word p faulty office script m b) (site p faulty office script m b) regular z x
        (hears_enough_of p b s (λ a. hears p b a and holds (stepped p faulty office script m b) x a)
        (λ a la e ma. let v = held a ma in and_i _ _ e (told m b a v.1.0 l lb g e v.0 v.1.1)) h))
        (joins_why p faulty s b j)))
      where
        regular : Regular (site p faulty office script m b)
        regular = (safe p sound faulty office rising script fault m b lb g).regular

    -- from round q on it is the last, so a terminal of turn k holds it from the k-th round after q on
    module _ (q : ℕ) (is_last : last_issued office q ≡ x) where
      source_holds : (m : ℕ) → q ≤ m → m ≤ r → (t : ℕ) × ((site p faulty office script m p.source).state ≡ Taken t x)
      source_holds m l u = (
        last_round office m,
        source_taken p sound faulty office rising script fault m
            ∙ ap (Taken (last_round office m))
            (last_only office rising r (last_issued office m) (last_by office m r u) (omega (arith, ap edition_of is_last, last_grows office rising q m l))),
      )

      pub reached_holds : (k b m : ℕ) → q + k ≤ m → m ≤ r → mem b (reached_after p faulty k) ≡ true
          → (t : ℕ) × ((site p faulty office script m b).state ≡ Taken t x)
      reached_holds zero b m l u i =
          let lb = mem_below p.n b (reached_after p faulty 0) (after_below p faulty 0) i in
          subst (λ (a : ℕ). (t : ℕ) × ((site p faulty office script m a).state ≡ Taken t x)) (sym (first_only p faulty b lb i)) (source_holds m (omega arith) u)
      reached_holds (suc k) b zero l u i = absurd (omega arith)
      reached_holds (suc k) b (suc m) l u i =
          let lb = mem_below p.n b (reached_after p faulty (suc k)) (after_below p faulty (suc k)) i in
          let g = after_good p faulty (fault_source p faulty fault) (suc k) b i in
          ⊎_elim (reached_holds k b (suc m) (omega arith) u)
          (λ j.
          ⊎_elim (λ e. subst (λ (a : ℕ). (t : ℕ) × ((site p faulty office script (suc m) a).state ≡ Taken t x)) (sym e) (source_holds (suc m) (omega arith) u))
          (λ z.
          joins_holds m (reached_after p faulty k) b u lb g z (source_holds m (omega arith) (omega arith))
          (λ a ma. (after_good p faulty (fault_source p faulty fault) k a ma, reached_holds k a m (omega arith) (omega arith) ma)) j)
          (equal_or_not b p.source))
          (after_why p faulty k b lb i)
