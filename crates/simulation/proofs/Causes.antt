-- The number of the run's first cause, by the tests that decide it. Assumes nothing.
use Prim.Native.Nat.{ℕ, ◌+◌, ◌*◌, ◌≤◌}
use mathlib.Core.Path.{◌≡◌, refl, sym, ap, ◌∙◌}
use mathlib.Core.Logic.{⊎_elim}
use mathlib.Core.Bool.{true, false}
use mathlib.Core.List.{List, [], ◌∷◌}
use native.Mathlib.Omega.{arith}
use lib.Dec.{eqb}
use lib.ListN.{length}
use borrow.Author.Tests.{eqb-true, eqb-false, eq-eqb, ne_eqb}
use Rattle.sets.proofs.Bools.{and_l, and_r, and_i, not_i, not_e, not_yes, not_no, pick_yes, pick_no}
use Rattle.std.specs.Prelude.{Result, Ok, Err}
use Rattle.std.specs.Result.{IsErrAnd}
use Rattle.std.proofs.lemmas.Result.{err_from_is_err_and}
use Rattle.sets.specs.Causes.{first_cause, given}
use Rattle.sets.proofs.Laws.{equal_or_not}
use Rattle.sets.proofs.Causes.{cause_here, cause_later, cause_last, cause_none, given_passes, given_decides, given_none}
use Rattle.plan.specs.declared.Plan.{Plan}
use Rattle.plan.specs.Plan.{cause_of}
use Rattle.closure.specs.FaultSet.{is_fault_set}
use Rattle.faults.specs.declared.FaultSetError.{FaultSetError}
use Rattle.faults.specs.Check.{fault_number_of, fault_cause_of}
use Rattle.faults.proofs.Laws.{fault_sound}
use Rattle.simulation.specs.declared.RunError.{RunError}
use Rattle.simulation.specs.declared.RunError.TheVariants.{WrongRange, WrongLink, WrongGroups, WrongMember, OverBound, WrongStart, WrongEdition, WrongLength}
use Rattle.simulation.specs.Answer.{number_of, office_sound, lists_fit, given_cause, run_cause, turns_of}
use Rattle.quorum.specs.Notice.{edition_of, layout_of, silent, rising}
use Rattle.quorum.proofs.Notices.{said_i}
use Rattle.quorum.specs.Words.{start_sound}
use Rattle.quorum.proofs.Words.{start_parts}

-- what refuses has a number that is not 0
pub refuses : (e : RunError) → eqb (number_of (Err e)) 0 ≡ false
refuses WrongRange = refl
refuses WrongLink = refl
refuses WrongGroups = refl
refuses WrongMember = refl
refuses OverBound = refl
refuses WrongStart = refl
refuses WrongEdition = refl
refuses WrongLength = refl

-- an outcome other than `Ok` has a number that is not 0
pub not_played : (o : Result Unit RunError) → (o ≡ Ok tt → ⊥) → eqb (number_of o) 0 ≡ false
not_played (Ok u) h = absurd (h refl)
not_played (Err e) h = refuses e

pub refused_by : (e : RunError) (k : ℕ) → number_of (Err e) ≡ k → eqb k 0 ≡ false
refused_by e k h = ap (λ (x : ℕ). eqb x 0) (sym h) ∙ refuses e

-- what refuses the fault set, handed on
pub fault_refuses : (e : FaultSetError) (r : Result Unit RunError) → IsErrAnd r (λ x. number_of (Err x) ≡ fault_number_of (Err e))
    → (number_of r ≡ fault_number_of (Err e)) × (eqb (number_of r) 0 ≡ false)
fault_refuses e r h = let k = err_from_is_err_and r h in (ap number_of k.1 ∙ k.2, rw k.1 (refuses k.0))

pub fits : (p : Plan) (rounds words issues places : ℕ) → words ≡ rounds * (p.n * p.n) → issues ≡ rounds → places ≡ p.n → lists_fit p rounds words issues places ≡ true
unfolding lists_fit
fits p rounds words issues places e l q = and_i _ _ (eq-eqb _ _ e) (and_i _ _ (eq-eqb _ _ l) (eq-eqb _ _ q))

-- what is given beside plan and fault set
module _ (p : Plan) (first : ℕ) (later : List ℕ) (rounds words places : ℕ) where
  pub given_played : start_sound (layout_of first) rounds ≡ true → office_sound first later ≡ true → lists_fit p rounds words (length later) places ≡ true
      → 0 ≡ given_cause p first later rounds words places
  unfolding given_cause
  given_played s o l = sym (cause_later _ 9 _ (not_yes s) ∙ cause_later _ 16 _ (not_yes o) ∙ cause_last _ 12 (not_yes l))

  pub given_length : start_sound (layout_of first) rounds ≡ true → office_sound first later ≡ true → lists_fit p rounds words (length later) places ≡ false
      → 12 ≡ given_cause p first later rounds words places
  unfolding given_cause
  given_length s o l = sym (cause_later _ 9 _ (not_yes s) ∙ cause_later _ 16 _ (not_yes o) ∙ cause_here _ 12 _ (not_i l))

  pub given_edition : start_sound (layout_of first) rounds ≡ true → office_sound first later ≡ false → 16 ≡ given_cause p first later rounds words places
  unfolding given_cause
  given_edition s o = sym (cause_later _ 9 _ (not_yes s) ∙ cause_here _ 16 _ (not_i o))

  pub given_start : start_sound (layout_of first) rounds ≡ false → 9 ≡ given_cause p first later rounds words places
  unfolding given_cause
  given_start s = sym (cause_here _ 9 _ (not_i s))

module _ (p : Plan) (faulty first : ℕ) (later : List ℕ) (rounds words places : ℕ) where
  abbrev cause : ℕ
  cause = run_cause p faulty first later rounds words places

  pub cause_given : fault_cause_of p faulty ≡ 0 → given_cause p first later rounds words places ≡ cause
  unfolding run_cause
  cause_given f = sym (given_passes (fault_cause_of p faulty) _ f ∙ row_is (given_cause p first later rounds words places))
    where
      row_is : (k : ℕ) → first_cause (given k ∷ []) ≡ k
      row_is k = ⊎_elim (λ z. cause_last _ k (not_yes (eq-eqb k 0 z)) ∙ sym z) (λ n. cause_here _ k _ (not_i (ne_eqb k 0 n))) (equal_or_not k 0)

  pub cause_fault : (e : FaultSetError) (r : Result Unit RunError) → IsErrAnd r (λ x. number_of (Err x) ≡ fault_number_of (Err e))
      → fault_number_of (Err e) ≡ fault_cause_of p faulty → number_of r ≡ cause
  unfolding run_cause
  cause_fault e r h f =
      let k = fault_refuses e r h in
      let same = k.0 ∙ f in
      same ∙ sym (given_decides (fault_cause_of p faulty) _ (λ y. eqb-false (number_of r) 0 k.1 (same ∙ y)))

  pub turns_played : cause ≡ 0 → (rounds + 1) * p.n ≡ turns_of p faulty first later rounds words places
  unfolding turns_of
  turns_played e = sym (pick_yes _ _ _ (eq-eqb _ _ e))

  pub turns_refused : (k : ℕ) → k ≡ cause → eqb k 0 ≡ false → 0 ≡ turns_of p faulty first later rounds words places
  unfolding turns_of
  turns_refused k e z = sym (pick_no _ _ _ (ap (λ (x : ℕ). eqb x 0) (sym e) ∙ z))

  -- what an accepted call has
  pub record Accepted : Type 0 where
    pub plan_sound : cause_of p ≡ 0
    pub fault : is_fault_set p faulty ≡ true
    pub first_said : silent first ≡ false
    pub rises : rising (edition_of first) later ≡ true
    pub forty : rounds ≤ 40
    pub words_fit : words ≡ rounds * (p.n * p.n)
    pub later_fit : length later ≡ rounds
    pub places_fit : places ≡ p.n

  pub accepted_run : cause ≡ 0 → Accepted
  unfolding run_cause given_cause office_sound lists_fit
  accepted_run h =
      let f = given_none (fault_cause_of p faulty) _ h in
      let w = (given_none (given_cause p first later rounds words places) _ f.1).0 in
      let s = cause_none _ 9 _ (λ z. omega arith) w in
      let o = cause_none _ 16 _ (λ z. omega arith) s.1 in
      let l = cause_none _ 12 _ (λ z. omega arith) o.1 in
      let g = fault_sound p faulty f.0 in
      let started = start_parts (layout_of first) rounds (not_no _ s.0) in
      let office = not_no (office_sound first later) o.0 in
      let fit = not_no (lists_fit p rounds words (length later) places) l.0 in
      record {
        plan_sound = g.0;
        fault = g.1;
        first_said = said_i first (eqb-false (edition_of first) 0 (not_e (eqb (edition_of first) 0) (and_l _ _ office))) (λ z. let v = started.0 in omega arith);
        rises = and_r _ _ office;
        forty = started.1;
        words_fit = eqb-true words (rounds * (p.n * p.n)) (and_l _ _ fit);
        later_fit = eqb-true (length later) rounds (and_l _ _ (and_r _ _ fit));
        places_fit = eqb-true places p.n (and_r _ _ (and_r _ _ fit));
      }
