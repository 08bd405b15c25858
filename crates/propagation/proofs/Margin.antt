-- What a margin tells of runs holds of every plan with a bound that the check finds sound. Assumes nothing.
use Prim.Native.Nat.{ℕ, zero, suc, ◌+◌, ◌-◌, ◌≤◌, ◌<◌}
use mathlib.Core.Path.{◌≡◌, refl, sym, ap, ◌∙◌, subst}
use mathlib.Core.Logic.{⊎_elim}
use mathlib.Core.Bool.{true, false, not}
use native.Mathlib.Omega.{arith}
use lib.IntN.{ℤ, pos, ◌+ℤ◌}
use lib.Signed.{lt_z, le_z}
use borrow.Author.Tests.{le-leb}
use Rattle.sets.specs.Tests.{◌and◌, ◌or◌}
use Rattle.sets.specs.Sets.{mem}
use Rattle.sets.proofs.Bools.{clash, decide, and_l, and_r, and_i, not_i, not_e, no_by}
use Rattle.sets.proofs.Laws.{mem_zero, count_mono}
use Rattle.quorum.specs.Notice.{edition_of, layout_of, silent}
use Rattle.quorum.specs.declared.BoundKind.TheVariants.{Most}
use Rattle.quorum.proofs.Notices.{silent_zero}
use Rattle.terminal.specs.declared.State.TheVariants.{Waiting, Taken}
use Rattle.terminal.specs.Rule.{View, holds}
use Rattle.terminal.proofs.Newest.{holds_said}
use Rattle.terminal.proofs.Laws.{start_empty}
use Rattle.plan.specs.declared.Plan.{Plan}
use Rattle.plan.specs.Plan.{hears, cause_of}
use Rattle.plan.proofs.Laws.{Sound, sound}
use Rattle.closure.specs.FaultSet.{is_fault_set}
use Rattle.closure.specs.Closure.{reached, cut_off}
use Rattle.closure.specs.Margin.{heard_of_l, leaves_good, fewest, margin, has_margin}
use Rattle.propagation.specs.Run.{Script, Silent, silence, Office, one_notice, last_issued, Rising, Quiet, site}
use Rattle.propagation.specs.Demand3.{Good}
use Rattle.propagation.specs.Margin.{noted_from, MarginsHold}
use Rattle.closure.proofs.Faults.{fault_source}
use Rattle.closure.proofs.Growth.{reached_good}
use Rattle.closure.proofs.Witness.{cut_good, cut_is, defeats_i, defeats_accepted}
use Rattle.closure.proofs.Margin.{leaves_fault, leaves_good_lem, fewest_least, margin_and_needed, margins_tell}
use Rattle.propagation.proofs.Offices.{said_some, last_quiet, one_rises}
use Rattle.propagation.proofs.Steps.{note_said}
use Rattle.propagation.proofs.Rounds.{word, stepped, other_at_start, next_holds, word_good, says_why}
use Rattle.propagation.proofs.Safety.{not_both}
use Rattle.propagation.proofs.Liveness.{told}
use Rattle.propagation.proofs.Demand3.{reached_last, kept_waiting}

-- layout 1 in edition 1 is a notice
some_notice : silent 65537 ≡ false
unfolding silent edition_of layout_of ◌or◌
some_notice = refl

-- ---- what a terminal has noted

-- a notice that is noted from a good terminal was taken by it before, whatever the fault set says
module _ (p : Plan) (faulty : ℕ) (office : Office) (script : Script) (b j y : ℕ)
    (lb : b < p.n) (g : mem b faulty ≡ false) (z : b ≡ p.source → ⊥) (h : hears p b j ≡ true) (gj : mem j faulty ≡ false) where
  noted_taken : (r : ℕ) → holds (site p faulty office script r b) y j ≡ true
      → (k : ℕ) × (at : ℕ) × (k ≤ r) × ((site p faulty office script k j).state ≡ Taken at y)
  noted_taken zero e = clash e (ap (λ (v : View). holds v y j) (other_at_start p faulty office script b lb z) ∙ start_empty y j)
  noted_taken (suc r) e =
      let now : holds (stepped p faulty office script r b) y j ≡ true = sym (next_holds p faulty office script r b lb g y j) ∙ e in
      ⊎_elim (λ old. let w = noted_taken r old in let l : w.0 ≤ r = w.2 in (w.0, w.1, omega arith, w.3))
      (λ new.
      let w = says_why (suc r) (site p faulty office script r j).state y (sym (word_good p faulty office script r b j h gj) ∙ new.1)
      (said_some y (holds_said (stepped p faulty office script r b) y j now)) in (r, w.0, omega arith, w.1))
      (note_said p b (word p faulty office script r b) (site p faulty office script r b) y j now)

module _ (p : Plan) (s : Sound p) where
  -- whoever is cut off waits for ever, by silence alone
  cut_waits : (faulty : ℕ) → is_fault_set p faulty ≡ true → (b : ℕ) → b < p.n → mem b (cut_off p faulty) ≡ true
      → (office : Office) (script : Script) (r : ℕ) → Silent p faulty r script → (site p faulty office script r b).state ≡ Waiting
  cut_waits faulty i b lb c office script r quiet =
      kept_waiting p s faulty (reached p faulty) (cut_off p faulty)
      (defeats_accepted p s.source_below faulty (defeats_i p faulty i (λ none. clash c (ap (mem b) none ∙ mem_zero b))))
      office script r b quiet lb c

  module _ (office : Office) (up : Rising office) (faulty b : ℕ) (lb : b < p.n) (leaves : leaves_good p b faulty ≡ true) (script : Script) where
    fault : is_fault_set p faulty ≡ true
    fault = leaves_fault p b faulty leaves

    good : mem b faulty ≡ false
    good = leaves_good_lem p b faulty leaves

    good_of_l : (j : ℕ) → mem j (reached p faulty) ≡ true → mem j faulty ≡ false
    good_of_l = reached_good p faulty (fault_source p faulty fault)

    -- from how many good neighbours it has the first notice after r rounds
    abbrev noted : ℕ → ℕ
    noted r = noted_from p faulty b office.first (site p faulty office script r b)

    -- from each member of L that it hears, since all of them held it a round before
    noted_of_l : (r j : ℕ) → p.n ≤ r → Quiet office 0 r → hears p b j ≡ true → mem j (reached p faulty) ≡ true
        → holds (site p faulty office script r b) office.first j ≡ true
    unfolding last_issued
    noted_of_l zero j l quiet h m = absurd (omega arith)
    noted_of_l (suc k) j l quiet h m =
        let same : last_issued office (suc k) ≡ office.first = last_quiet office 0 (suc k) (omega arith) quiet in
        let held = reached_last p s office up faulty fault script 0 k j (omega arith) (λ q a e. quiet q a (omega arith)) m in
        subst (λ (x : ℕ). holds (site p faulty office script (suc k) b) x j ≡ true) same
        (next_holds p faulty office script k b lb good (last_issued office (suc k)) j
        ∙ told p s faulty office up script fault (suc k) k b j held.0 (omega arith) lb good h (good_of_l j m) (held.1 ∙ ap (Taken held.0) (sym same)))

    noted_least : (r : ℕ) → p.n ≤ r → Quiet office 0 r → heard_of_l p b faulty ≤ noted r
    unfolding heard_of_l noted_from
    noted_least r l quiet =
        count_mono p.n (λ j. hears p b j and mem j (reached p faulty))
        (λ j. hears p b j and not (mem j faulty) and holds (site p faulty office script r b) office.first j)
        (λ j lj e.
        let h = and_l _ _ e in
        let m = and_r _ _ e in
        and_i _ _ h (and_i _ _ (not_i (good_of_l j m)) (noted_of_l r j l quiet h m)))

    -- by silence from no other good one: those wait
    noted_most : (r : ℕ) → (b ≡ p.source → ⊥) → Silent p faulty r script → noted r ≤ heard_of_l p b faulty
    unfolding heard_of_l noted_from
    noted_most r z quiet =
        count_mono p.n (λ j. hears p b j and not (mem j faulty) and holds (site p faulty office script r b) office.first j)
        (λ j. hears p b j and mem j (reached p faulty))
        (λ j lj e.
        let h = and_l _ _ e in
        let gj = not_e (mem j faulty) (and_l _ _ (and_r _ _ e)) in
        let w = noted_taken p faulty office script b j office.first lb good z h gj r (and_r _ _ (and_r _ _ e)) in
        let before : w.0 ≤ r = w.2 in
        and_i _ _ h
        (⊎_elim (λ m. m)
        (λ u.
        not_both
        (cut_waits faulty fault j lj (cut_is p faulty j lj gj u) office script w.0
        (λ round sender hearer first last. quiet round sender hearer first (omega arith)))
        w.3)
        (decide (mem j (reached p faulty)))))

  -- ---- the margins

  module _ (f : ℕ) (m : p.bound.kind ≡ Most f) where
    at_least : (office : Office) (up : Rising office) (faulty b : ℕ) (lb : b < p.n) (leaves : leaves_good p b faulty ≡ true) (script : Script) (r : ℕ)
        → p.n ≤ r → Quiet office 0 r → le_z (margin p b +ℤ pos (f + 1)) (pos (noted office up faulty b lb leaves script r)) ≡ true
    at_least office up faulty b lb leaves script r l quiet =
        let few = (fewest_least p b).least faulty leaves in
        let least = noted_least office up faulty b lb leaves script r l quiet in
        ap (λ (x : ℤ). le_z x (pos (noted office up faulty b lb leaves script r))) (margin_and_needed p b f m)
        ∙ le-leb (fewest p b) (noted office up faulty b lb leaves script r) (omega arith)

    exactly : (office : Office) (up : Rising office) (faulty b : ℕ) (lb : b < p.n) (leaves : leaves_good p b faulty ≡ true) (script : Script) (r : ℕ)
        → p.n ≤ r → Quiet office 0 r → (b ≡ p.source → ⊥) → Silent p faulty r script → fewest p b ≡ heard_of_l p b faulty
        → pos (noted office up faulty b lb leaves script r) ≡ margin p b +ℤ pos (f + 1)
    exactly office up faulty b lb leaves script r l quiet z still few =
        let least = noted_least office up faulty b lb leaves script r l quiet in
        let most = noted_most office up faulty b lb leaves script r z still in
        let same : noted office up faulty b lb leaves script r ≡ fewest p b = omega arith in
        ap pos same ∙ sym (margin_and_needed p b f m)

    for_ever : (b : ℕ) → b < p.n → has_margin p b ≡ true → lt_z (margin p b) (pos 0) ≡ true
        → (faulty : ℕ) × (is_fault_set p faulty ≡ true) × Good p faulty b
        × ((office : Office) (script : Script) (r : ℕ) → Silent p faulty r script → (site p faulty office script r b).state ≡ Waiting)
    for_ever b lb has low =
        let w = ((margins_tell p s.source_below f m).below b lb has).0 low in
        (w.0, w.1, (lb, cut_good p w.0 b lb w.2), cut_waits w.0 w.1 b lb w.2)

    -- whoever waits after n - 1 rounds is not reached
    waits_below : (notice b : ℕ) → silent notice ≡ false → has_margin p b ≡ true → (faulty : ℕ) (script : Script) → is_fault_set p faulty ≡ true → Good p faulty b
        → (site p faulty (one_notice notice) script (p.n - 1) b).state ≡ Waiting → lt_z (margin p b) (pos 0) ≡ true
    waits_below notice b said has faulty script i g w =
        ((margins_tell p s.source_below f m).below b g.0 has).1 (
          faulty,
          i,
          cut_is p faulty b g.0 g.1
              (no_by
              (λ l.
              not_both w
              (reached_last p s (one_notice notice) (one_rises notice said) faulty i script 0 (p.n - 1) b (omega arith) (λ k a e. silent_zero) l).1)),
        )

    pub margins_hold : MarginsHold p f
    margins_hold = record {
      at_least = λ office up faulty b lb _. at_least office up faulty b lb;
      exactly = λ b lb z.
          let w = (fewest_least p b).some in
          (w.0, w.1, λ office up script r l quiet still. exactly office up w.0 b lb w.1 script r l quiet z still w.2);
      waits = λ notice b said lb has. (
        λ low.
            let w = for_ever b lb has low in
            (w.0, silence, w.1, w.2, w.3 (one_notice notice) silence (p.n - 1) (λ _ _ _ _ _ _ _. refl)),
        λ w. waits_below notice b said has w.0 w.1 w.2 w.3 w.4,
      );
      for_ever = λ b lb has. (
        for_ever b lb has,
        λ w. waits_below 65537 b some_notice has w.0 silence w.1 w.2 (w.3 (one_notice 65537) silence (p.n - 1) (λ _ _ _ _ _ _ _. refl)),
      );
    }

pub margins_hold_of : (p : Plan) → cause_of p ≡ 0 → (f : ℕ) → p.bound.kind ≡ Most f → MarginsHold p f
margins_hold_of p e = margins_hold p (sound p e)
