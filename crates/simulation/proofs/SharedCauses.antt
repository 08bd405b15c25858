-- The causes of a run on a shared channel in their order, and what an accepted call has. Assumes nothing.
use Prim.Native.Nat.{ℕ, ◌+◌, ◌*◌, ◌≤◌}
use mathlib.Core.Path.{◌≡◌, sym, ap, ◌∙◌}
use mathlib.Core.Bool.{true, false}
use native.Mathlib.Nat.{mul-le-mul}
use native.Mathlib.Omega.{arith}
use lib.Dec.{eqb}
use borrow.Author.Tests.{eq-eqb, eqb-true, eqb-false}
use Rattle.std.specs.Prelude.{Result, Err}
use Rattle.std.specs.Result.{IsErrAnd}
use Rattle.sets.proofs.Bools.{and_l, and_r, not_e, not_i, not_yes, not_no, pick_yes, pick_no}
use Rattle.sets.proofs.Causes.{cause_here, cause_later, cause_last, cause_none, given_passes, given_decides, given_none}
use Rattle.quorum.proofs.Words.{start_parts}
use Rattle.plan.specs.declared.Plan.{Plan}
use Rattle.plan.specs.Plan.{cause_of}
use Rattle.closure.specs.FaultSet.{is_shared_fault_set}
use Rattle.faults.specs.declared.FaultSetError.{FaultSetError}
use Rattle.faults.specs.Check.{fault_number_of, shared_fault_cause_of}
use Rattle.faults.proofs.Laws.{shared_sound}
use Rattle.simulation.specs.declared.RunError.{RunError}
use Rattle.simulation.specs.Answer.{number_of}
use Rattle.simulation.proofs.Causes.{fault_refuses}
use Rattle.simulation.specs.Channel.{shared_start_sound, shared_lists_fit, shared_run_cause, shared_turns_of}

-- 40 times 20 words
pub shared_words_le : (n rounds : ℕ) → n ≤ 20 → rounds ≤ 40 → rounds * n ≤ 800
shared_words_le n rounds h k = mul-le-mul {n₂ = 40} {m₂ = 20} k h

-- the parts of a sound start
pub shared_start_parts : (value default rounds : ℕ) → shared_start_sound value default rounds ≡ true → (1 ≤ value) × (rounds ≤ 40) × (default ≡ 0 → ⊥)
unfolding shared_start_sound
shared_start_parts value default rounds h =
    let s = start_parts value rounds (and_l _ _ h) in (s.0, s.1, eqb-false default 0 (not_e (eqb default 0) (and_r _ _ h)))

module _ (p : Plan) (faulty value default rounds words places : ℕ) where
  abbrev cause : ℕ
  cause = shared_run_cause p faulty value default rounds words places

  pub shared_played : shared_fault_cause_of p faulty ≡ 0 → shared_start_sound value default rounds ≡ true → shared_lists_fit p rounds words places ≡ true → 0 ≡ cause
  unfolding shared_run_cause
  shared_played f s l = sym (given_passes (shared_fault_cause_of p faulty) _ f ∙ cause_later _ 9 _ (not_yes s) ∙ cause_last _ 12 (not_yes l))

  pub shared_length : shared_fault_cause_of p faulty ≡ 0 → shared_start_sound value default rounds ≡ true → shared_lists_fit p rounds words places ≡ false → 12 ≡ cause
  unfolding shared_run_cause
  shared_length f s l = sym (given_passes (shared_fault_cause_of p faulty) _ f ∙ cause_later _ 9 _ (not_yes s) ∙ cause_here _ 12 _ (not_i l))

  pub shared_wrong_start : shared_fault_cause_of p faulty ≡ 0 → shared_start_sound value default rounds ≡ false → 9 ≡ cause
  unfolding shared_run_cause
  shared_wrong_start f s = sym (given_passes (shared_fault_cause_of p faulty) _ f ∙ cause_here _ 9 _ (not_i s))

  pub shared_fault : (e : FaultSetError) (r : Result Unit RunError) → IsErrAnd r (λ x. number_of (Err x) ≡ fault_number_of (Err e))
      → fault_number_of (Err e) ≡ shared_fault_cause_of p faulty → number_of r ≡ cause
  unfolding shared_run_cause
  shared_fault e r h f =
      let k = fault_refuses e r h in
      let same = k.0 ∙ f in
      same ∙ sym (given_decides (shared_fault_cause_of p faulty) _ (λ y. eqb-false (number_of r) 0 k.1 (same ∙ y)))

  pub shared_turns_played : cause ≡ 0 → (rounds + 1) * p.n ≡ shared_turns_of p faulty value default rounds words places
  unfolding shared_turns_of
  shared_turns_played e = sym (pick_yes _ _ _ (eq-eqb _ _ e))

  pub shared_turns_refused : (k : ℕ) → k ≡ cause → eqb k 0 ≡ false → 0 ≡ shared_turns_of p faulty value default rounds words places
  unfolding shared_turns_of
  shared_turns_refused k e z = sym (pick_no _ _ _ (ap (λ (x : ℕ). eqb x 0) (sym e) ∙ z))

  -- what an accepted call has
  pub record SharedAccepted : Type 0 where
    pub plan_sound : cause_of p ≡ 0
    pub fault : is_shared_fault_set p faulty ≡ true
    pub some_value : value ≡ 0 → ⊥
    pub some_default : default ≡ 0 → ⊥
    pub forty : rounds ≤ 40
    pub places_fit : places ≡ p.n

  pub shared_accepted_run : cause ≡ 0 → SharedAccepted
  unfolding shared_run_cause shared_lists_fit
  shared_accepted_run h =
      let f = given_none (shared_fault_cause_of p faulty) _ h in
      let s = cause_none _ 9 _ (λ z. omega arith) f.1 in
      let l = cause_none _ 12 _ (λ z. omega arith) s.1 in
      let g = shared_sound p faulty f.0 in
      let started = shared_start_parts value default rounds (not_no _ s.0) in
      let fit = not_no (shared_lists_fit p rounds words places) l.0 in
      record {
        plan_sound = g.0;
        fault = g.1;
        some_value = λ z. let v = started.0 in omega arith;
        some_default = started.2;
        forty = started.1;
        places_fit = eqb-true places p.n (and_r _ _ fit);
      }
