-- All that the theory uses of a fault set, and of hearing enough of a set. Assumes nothing.
use Prim.Native.Nat.{ℕ, ◌<◌, ◌^◌}
use mathlib.Core.Path.{◌≡◌, refl, ◌∙◌}
use mathlib.Core.Bool.{Bool, true, false, not}
use lib.Dec.{eqb}
use lib.Pow.{pow_pos}
use borrow.Author.Tests.{ltb-true, lt-ltb}
use Rattle.sets.specs.Tests.{◌and◌, ◌implies◌}
use Rattle.sets.specs.Sets.{mem, within}
use Rattle.sets.proofs.Bools.{and_l, and_r, and_i, and_no_r, not_i, not_e, not_yes, implies_i, implies_e}
use Rattle.sets.proofs.Laws.{mem_zero, all_at, all_i}
use Rattle.sets.proofs.Operations.{mem_without}
use Rattle.quorum.specs.declared.BoundKind.{BoundKind}
use Rattle.quorum.specs.declared.BoundKind.TheVariants.{Most, Groups}
use Rattle.quorum.proofs.Laws.{fit_part, fit_none, enough_mono, enough_none, enough_groups}
use Rattle.plan.specs.declared.Plan.{Plan}
use Rattle.plan.specs.Plan.{hears}
use Rattle.closure.specs.FaultSet.{enough_in, hears_enough, bounded_by, is_bounded, is_fault_set, beside_source, is_shared_fault_set}

-- it lies below 2 ^ n, it lacks the source, and its members that a good terminal hears are never enough
pub fault_below : (p : Plan) (s : ℕ) → is_fault_set p s ≡ true → s < 2 ^ p.n
unfolding is_fault_set within
fault_below p s h = ltb-true s (2 ^ p.n) (and_l _ _ h)

pub fault_source : (p : Plan) (s : ℕ) → is_fault_set p s ≡ true → mem p.source s ≡ false
unfolding is_fault_set
fault_source p s h = not_e (mem p.source s) (and_l _ _ (and_r _ _ h))

bound_by : (kind : BoundKind) (p : Plan) (s : ℕ) → p.bound.kind ≡ kind → bounded_by kind p s ≡ true → (b : ℕ) → b < p.n → mem b s ≡ false
    → hears_enough p b s ≡ false
unfolding hears_enough
bound_by (Most f) p s e h b k m =
    not_e (hears_enough p b s) (implies_e _ _ (all_at p.n (λ b. not (mem b s) implies not (hears_enough p b s)) h b k) (not_i m))
bound_by (Groups c) p s e h b k m =
    enough_groups p.n p.bound (λ a. hears p b a and mem a s) c e
    ∙ not_yes (fit_part p.n p.bound (λ a. hears p b a and mem a s) (λ a. mem a s) (λ a l t. and_r _ _ t) h)

pub fault_bound : (p : Plan) (s : ℕ) → is_fault_set p s ≡ true → (b : ℕ) → b < p.n → mem b s ≡ false → hears_enough p b s ≡ false
unfolding is_fault_set is_bounded
fault_bound p s h b k e = bound_by p.bound.kind p s refl (and_r _ _ (and_r _ _ h)) b k e

-- whoever hears nobody of a set does not hear enough of it, so nobody is a fault set
pub hears_none : (p : Plan) (b s : ℕ) → ((a : ℕ) → hears p b a and mem a s ≡ false) → hears_enough p b s ≡ false
unfolding hears_enough
hears_none p b s h = enough_none p.n p.bound (λ a. hears p b a and mem a s) (λ a k. h a)

none_by : (kind : BoundKind) (p : Plan) → bounded_by kind p 0 ≡ true
none_by (Most f) p =
    all_i p.n (λ b. not (mem b 0) implies not (hears_enough p b 0))
    (λ b k. implies_i _ _ (λ h. not_i (hears_none p b 0 (λ a. and_no_r _ _ (mem_zero a)))))
none_by (Groups c) p = fit_none p.n p.bound (λ j. mem j 0) (λ j k. mem_zero j)

pub fault_none : (p : Plan) → is_fault_set p 0 ≡ true
unfolding is_fault_set is_bounded within
fault_none p = and_i _ _ (lt-ltb 0 (2 ^ p.n) (pow_pos p.n)) (and_i _ _ (not_i (mem_zero p.source)) (none_by p.bound.kind p))

-- whoever hears enough of a property's terminals, each in the set, hears enough of the set
pub hears_enough_lem : (p : Plan) (b s : ℕ) (P : ℕ → Bool) → ((a : ℕ) → a < p.n → P a ≡ true → (hears p b a ≡ true) × (mem a s ≡ true))
    → enough_in p P ≡ true → hears_enough p b s ≡ true
unfolding hears_enough
hears_enough_lem p b s P i h = enough_mono p.n p.bound P (λ a. hears p b a and mem a s) (λ a k e. let t = i a k e in and_i _ _ t.0 t.1) h

pub hears_enough_of : (p : Plan) (b s : ℕ) (Q : ℕ → Bool) → ((a : ℕ) → a < p.n → hears p b a ≡ true → mem a s ≡ true → Q a ≡ true)
    → hears_enough p b s ≡ true → enough_in p Q ≡ true
unfolding hears_enough
hears_enough_of p b s Q i h =
    enough_mono p.n p.bound (λ a. hears p b a and mem a s) Q (λ a k e. i a k (and_l _ _ e) (and_r _ _ e)) h

pub hears_enough_mono : (p : Plan) (b s t : ℕ) → ((a : ℕ) → a < p.n → mem a s ≡ true → mem a t ≡ true)
    → hears_enough p b s ≡ true → hears_enough p b t ≡ true
unfolding hears_enough
hears_enough_mono p b s t i h = hears_enough_of p b s (λ a. hears p b a and mem a t) (λ a k e m. and_i _ _ e (i a k m)) h

-- ---- the fault set of a shared channel

module _ (p : Plan) (s : ℕ) where
  pub shared_below : is_shared_fault_set p s ≡ true → s < 2 ^ p.n
  unfolding is_shared_fault_set within
  shared_below h = ltb-true s (2 ^ p.n) (and_l _ _ h)

  -- its members beside the source are a fault set
  pub shared_beside : is_shared_fault_set p s ≡ true → is_fault_set p (beside_source p s) ≡ true
  unfolding is_shared_fault_set
  shared_beside h = and_r _ _ h

  pub mem_beside : s < 2 ^ p.n → (j : ℕ) → mem j (beside_source p s) ≡ mem j s and not (eqb j p.source)
  unfolding beside_source
  mem_beside h j = mem_without p.n s p.source j h
