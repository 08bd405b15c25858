-- The check of a fault set, by the plan's cause, the members and the bound. Assumes nothing.
use Prim.Native.Nat.{ℕ, ◌^◌, ◌≤◌, ◌<◌}
use mathlib.Core.Path.{◌≡◌, refl, sym, ap, ◌∙◌}
use mathlib.Core.Logic.{⊎_elim}
use mathlib.Core.Bool.{true, false, not}
use Rattle.std.specs.Prelude.{Result, Err}
use Rattle.std.specs.Result.{IsErrAnd}
use Rattle.std.proofs.lemmas.Result.{err_from_is_err_and}
use Rattle.faults.specs.declared.FaultSetError.{FaultSetError}
use mathlib.Core.List.{[], ◌∷◌}
use native.Mathlib.Omega.{arith}
use lib.Dec.{eqb}
use lib.Pow.{pow_mono}
use native.Mathlib.Nat.{lt_of_lt_of_le}
use borrow.Author.Tests.{eq-eqb, eqb-true, lt-ltb, ltb-true}
use Rattle.sets.proofs.Bools.{and_l, and_r, and_i, and_no_l, and_no_r, same_test, not_i, not_yes, not_no}
use Rattle.sets.specs.Causes.{◌gives◌, first_cause}
use Rattle.sets.proofs.Causes.{cause_here, cause_later, cause_last, cause_none, given_passes, given_decides, given_none}
use Rattle.sets.specs.Tests.{◌and◌}
use Rattle.sets.specs.Sets.{mem, within, without}
use Rattle.sets.proofs.Laws.{equal_or_not, mask_lt, set_ext}
use Rattle.sets.proofs.Operations.{mem_without}
use Rattle.quorum.specs.Quorum.{others}
use Rattle.plan.proofs.Laws.{sound}
use Rattle.plan.specs.declared.Plan.{Plan}
use Rattle.plan.specs.Plan.{number_of, cause_of}
use Rattle.plan.specs.declared.Unsound.{Unsound}
use Rattle.plan.specs.declared.Unsound.TheVariants as unsound
use Rattle.closure.specs.FaultSet.{is_bounded, is_fault_set, beside_source, is_shared_fault_set}
use Rattle.faults.specs.Check.{of_plan, fault_number_of, fault_cause_of, shared_fault_cause_of}

err_of : (r : Result Unit FaultSetError) (x : FaultSetError) → IsErrAnd r (λ y. y ≡ x) → r ≡ Err x
err_of r x k = let e = err_from_is_err_and r k in e.1 ∙ ap Err e.2

module _ (p : Plan) (s : ℕ) where
  -- a fault set of a sound plan has no cause against it
  pub fault_is : cause_of p ≡ 0 → is_fault_set p s ≡ true → fault_cause_of p s ≡ 0
  unfolding fault_cause_of is_fault_set others
  fault_is c h =
      given_passes (cause_of p) _ c ∙ cause_later _ 7 _ (not_yes (and_i _ _ (and_l _ _ h) (and_l _ _ (and_r _ _ h)))) ∙ cause_last _ 8 (not_yes h)

  pub fault_bounded : cause_of p ≡ 0 → others p.n p.source s ≡ true → is_bounded p s ≡ true → 0 ≡ fault_cause_of p s
  unfolding is_fault_set others
  fault_bounded c m b = sym (fault_is c (and_i _ _ (and_l _ _ m) (and_i _ _ (and_r _ _ m) b)))

  pub fault_unbounded : cause_of p ≡ 0 → others p.n p.source s ≡ true → is_bounded p s ≡ false → 8 ≡ fault_cause_of p s
  unfolding fault_cause_of is_fault_set
  fault_unbounded c m b =
      sym (given_passes (cause_of p) _ c ∙ cause_later _ 7 _ (not_yes m) ∙ cause_here _ 8 _ (not_i (and_no_r _ _ (and_no_r _ _ b))))

  pub fault_members : cause_of p ≡ 0 → others p.n p.source s ≡ false → 7 ≡ fault_cause_of p s
  unfolding fault_cause_of
  fault_members c m = sym (given_passes (cause_of p) _ c ∙ cause_here _ 7 _ (not_i m))

  pub fault_refused : (k : ℕ) → k ≡ cause_of p → (k ≡ 0 → ⊥) → k ≡ fault_cause_of p s
  unfolding fault_cause_of
  fault_refused k e z = e ∙ sym (given_decides (cause_of p) _ (λ y. z (e ∙ y)))

  -- what refuses the plan, handed on as the answer
  pub plan_refused : (e : Unsound) (r : Result Unit FaultSetError) → IsErrAnd r (λ x. x ≡ of_plan e) → number_of (Err e) ≡ cause_of p
      → fault_number_of r ≡ fault_cause_of p s
  plan_refused unsound.WrongRange r k h = rw (err_of r _ k) (fault_refused 4 h (λ z. omega arith))
  plan_refused unsound.WrongLink r k h = rw (err_of r _ k) (fault_refused 5 h (λ z. omega arith))
  plan_refused unsound.WrongGroups r k h = rw (err_of r _ k) (fault_refused 17 h (λ z. omega arith))

  -- what no cause means: a sound plan, and a fault set of it
  pub fault_sound : fault_cause_of p s ≡ 0 → (cause_of p ≡ 0) × (is_fault_set p s ≡ true)
  unfolding fault_cause_of
  fault_sound h =
      let a = given_none (cause_of p) _ h in
      let b = cause_none _ 7 _ (λ z. omega arith) a.1 in
      (a.0, not_no _ (cause_none _ 8 _ (λ z. omega arith) b.1).0)

  -- of a sound plan, the number tells whether the set is a fault set
  pub fault_number : cause_of p ≡ 0 → eqb (fault_cause_of p s) 0 ≡ is_fault_set p s
  fault_number c =
      same_test _ _ (λ e. (fault_sound (eqb-true (fault_cause_of p s) 0 e)).1) (λ h. eq-eqb (fault_cause_of p s) 0 (fault_is c h))

-- ---- the fault set of a shared channel

module _ (p : Plan) (s : ℕ) where
  small : (w : ℕ) → without w s p.source < 2 ^ w
  unfolding without
  small w = mask_lt w (λ j. mem j s and not (eqb j p.source))

  -- the source is taken out of a word of 32 bits, or of the plan's n: the set is the same
  beside_wide : cause_of p ≡ 0 → s < 2 ^ p.n → without 32 s p.source ≡ beside_source p s
  unfolding beside_source
  beside_wide c h =
      let n20 = (sound p c).twenty in
      let wide : p.n ≤ 32 = omega arith in
      let s32 : s < 2 ^ 32 = lt_of_lt_of_le h (pow_mono wide) in
      set_ext 32 (without 32 s p.source) (without p.n s p.source) (small 32) (lt_of_lt_of_le (small p.n) (pow_mono wide))
      (λ j k. mem_without 32 s p.source j s32 ∙ sym (mem_without p.n s p.source j h))

  beside_others : s < 2 ^ p.n → others p.n p.source (beside_source p s) ≡ true
  unfolding others within beside_source
  beside_others h =
      and_i _ _ (lt-ltb (without p.n s p.source) (2 ^ p.n) (small p.n))
      (not_i (mem_without p.n s p.source p.source h ∙ and_no_r _ _ (not_yes (eq-eqb p.source p.source refl))))

  -- within n, it is the cause of the set without the source
  pub shared_within : within p.n s ≡ true → fault_cause_of p (without 32 s p.source) ≡ shared_fault_cause_of p s
  unfolding fault_cause_of shared_fault_cause_of within
  shared_within w =
      ⊎_elim
      (λ c.
      given_passes (cause_of p) _ c
      ∙ ap (λ (x : ℕ). first_cause (not (others p.n p.source x) gives 7 ∷ not (is_fault_set p x) gives 8 ∷ [])) (beside_wide c below)
      ∙ cause_later _ 7 _ (not_yes (beside_others below))
      ∙ sym (given_passes (cause_of p) _ c ∙ cause_later _ 7 _ (not_yes w)))
      (λ z. given_decides (cause_of p) _ z ∙ sym (given_decides (cause_of p) _ z))
      (equal_or_not (cause_of p) 0)
    where
      below : s < 2 ^ p.n
      below = ltb-true s (2 ^ p.n) w

  -- past n, both refuse it by 7
  pub shared_past : within p.n s ≡ false → fault_cause_of p s ≡ shared_fault_cause_of p s
  unfolding fault_cause_of shared_fault_cause_of others
  shared_past w =
      ⊎_elim
      (λ c.
      given_passes (cause_of p) _ c ∙ cause_here _ 7 _ (not_i (and_no_l _ _ w))
      ∙ sym (given_passes (cause_of p) _ c ∙ cause_here _ 7 _ (not_i w)))
      (λ z. given_decides (cause_of p) _ z ∙ sym (given_decides (cause_of p) _ z))
      (equal_or_not (cause_of p) 0)

  -- what no cause means: a sound plan, and a fault set of its shared channel
  pub shared_sound : shared_fault_cause_of p s ≡ 0 → (cause_of p ≡ 0) × (is_shared_fault_set p s ≡ true)
  unfolding shared_fault_cause_of is_shared_fault_set
  shared_sound h =
      let a = given_none (cause_of p) _ h in
      let b = cause_none _ 7 _ (λ z. omega arith) a.1 in
      (a.0, and_i _ _ (not_no _ b.0) (not_no _ (cause_none _ 8 _ (λ z. omega arith) b.1).0))
