-- Demand 3 holds of every plan that the check finds sound. Assumes nothing.
use Prim.Native.Nat.{ℕ, ◌+◌, ◌-◌, ◌≤◌, ◌<◌}
use mathlib.Core.Path.{◌≡◌, refl, sym, ap, ◌∙◌, subst}
use mathlib.Core.Bool.{true, false}
use mathlib.Core.List.{List}
use native.Mathlib.Omega.{arith}
use lib.ListN.{get_or}
use Rattle.sets.specs.Sets.{mem}
use Rattle.sets.proofs.Bools.{no_by}
use Rattle.sets.proofs.Laws.{some_member}
use Rattle.quorum.proofs.Notices.{silent_zero}
use Rattle.terminal.specs.declared.State.TheVariants.{Waiting, Taken}
use Rattle.terminal.specs.Rule.{View, start}
use Rattle.plan.specs.declared.Plan.{Plan}
use Rattle.plan.specs.Plan.{cause_of}
use Rattle.plan.proofs.Laws.{Sound, sound}
use Rattle.closure.specs.FaultSet.{is_fault_set}
use Rattle.closure.specs.Closure.{reached}
use Rattle.closure.specs.Verdict.{verdict, accepts}
use Rattle.propagation.specs.Run.{Script, Silent, silence, Office, one_notice, last_issued, Rising, Quiet, site}
use Rattle.propagation.specs.Demand3.{Good, LeavesWaiting, Demand3}
use Rattle.closure.proofs.Witness.{accepts_e, reached_of_none, verdict_pass, witness_accepted}
use Rattle.propagation.proofs.Offices.{issued_mono, issued_first, last_quiet, one_rises}
use Rattle.propagation.proofs.Safety
use Rattle.propagation.proofs.Safety.{not_both, held_next}
use Rattle.propagation.proofs.Liveness.{reached_holds}
use Rattle.propagation.proofs.Rounds.{sites_same}
use Rattle.propagation.proofs.Silence.{waits}

module _ (p : Plan) (s : Sound p) where
  -- whoever is reached holds the last notice n - 1 rounds after its issue
  pub reached_last : (office : Office) → Rising office → (faulty : ℕ) → is_fault_set p faulty ≡ true → (script : Script)
      → (q r b : ℕ) → q + (p.n - 1) ≤ r → Quiet office q r → mem b (reached p faulty) ≡ true
      → (at : ℕ) × ((site p faulty office script r b).state ≡ Taken at (last_issued office q))
  unfolding reached
  reached_last office up faulty i script q r b l quiet m =
      let same : last_issued office r ≡ last_issued office q = last_quiet office q r (omega arith) quiet in
      subst (λ (x : ℕ). (at : ℕ) × ((site p faulty office script r b).state ≡ Taken at x)) same
      (reached_holds p s faulty office up script i r q (sym same) (p.n - 1) b r l (omega arith) m)

  last_held : (verdict p).passed ≡ true → (office : Office) → Rising office → (faulty : ℕ) → is_fault_set p faulty ≡ true → (script : Script)
      → (q r b : ℕ) → q + (p.n - 1) ≤ r → Quiet office q r → Good p faulty b
      → (at : ℕ) × ((site p faulty office script r b).state ≡ Taken at (last_issued office q))
  last_held h office up faulty i script q r b l quiet g =
      reached_last office up faulty i script q r b l quiet (reached_of_none p faulty (verdict_pass p h faulty i) b g.0 g.1)

  none_waits_lem : (verdict p).passed ≡ true → (office : Office) → Rising office → (faulty : ℕ) → is_fault_set p faulty ≡ true → (script : Script)
      → (r b : ℕ) → p.n - 1 ≤ r → Quiet office 0 r → Good p faulty b → (site p faulty office script r b).state ≡ Waiting → ⊥
  none_waits_lem h office up faulty i script r b l quiet g w = not_both w (last_held h office up faulty i script 0 r b (omega arith) quiet g).1

  pub kept_waiting : (f l r : ℕ) → accepts p f l r ≡ true → (office : Office) → (script : Script) → (k b : ℕ) → Silent p f k script
      → b < p.n → mem b r ≡ true → (site p f office script k b).state ≡ Waiting
  unfolding site
  kept_waiting f l r a office script k b quiet lb m =
      ap (λ (records : List View). (get_or records b start).state)
      (sites_same p f office script silence k (λ round sender hearer first last h _ bad. quiet round sender hearer first last h bad))
      ∙ waits p s f l r (accepts_e p f l r a) office k b lb m

  witness : (verdict p).passed ≡ false → accepts p (verdict p).f (verdict p).l (verdict p).r ≡ true
  witness h = witness_accepted p s.source_below h

  leaves : (notice : ℕ) → (verdict p).passed ≡ false → LeavesWaiting p notice
  leaves notice h =
      let a = accepts_e p (verdict p).f (verdict p).l (verdict p).r (witness h) in
      let w = some_member p.n (verdict p).r a.r_below a.r_some in (
        (verdict p).f,
        silence,
        w.0,
        a.fault,
        (w.1, a.r_good w.0 w.1 w.2),
        kept_waiting (verdict p).f (verdict p).l (verdict p).r (witness h) (one_notice notice) silence (p.n - 1) w.0 (λ _ _ _ _ _ _ _. refl) w.1 w.2,
      )

  holds : Demand3 p
  holds = record {
    issued = λ office up faulty i script r b g at x e.
        let t = (Safety.safe p s faulty office up script i r b g.0 g.1).taken at x e in (t.0, t.2);
    last = last_held;
    editions = λ office up faulty i script r b g. held_next p s faulty office up script i r b g.0 g.1;
    safe = λ office up faulty i script r b quiet g at x e.
        let t = (Safety.safe p s faulty office up script i r b g.0 g.1).taken at x e in
        issued_first office r x quiet (issued_mono office at r x t.0 t.2.at_source);
    passes = none_waits_lem;
    fails = λ notice v. (
      leaves notice,
      λ w.
          no_by
          (λ h.
          none_waits_lem h (one_notice notice) (one_rises notice v) w.0 w.3 w.1 (p.n - 1) w.2 (omega arith) (λ k a b. silent_zero) w.4 w.5),
    );
    witness = witness;
    silent = λ h office script r b quiet lb m. kept_waiting (verdict p).f (verdict p).l (verdict p).r (witness h) office script r b quiet lb m;
    accepted = kept_waiting;
  }

pub demand3 : (p : Plan) → cause_of p ≡ 0 → Demand3 p
demand3 p e = holds p (sound p e)
