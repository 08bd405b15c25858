-- One plan passes where another does: if it has the terminals and the source of the other, whoever hears the source there hears it here, and whoever hears
-- enough of a set there hears enough of it here. Assumes nothing.
use Prim.Native.Nat.{ℕ, ◌^◌, ◌<◌}
use mathlib.Core.Path.{◌≡◌}
use mathlib.Core.Logic.{⊎_elim}
use mathlib.Core.Bool.{true, not}
use mathlib.Core.List.{List}
use borrow.Author.Tests.{lt-ltb}
use Rattle.sets.specs.Tests.{◌implies◌}
use Rattle.sets.specs.Sets.{mem, within}
use Rattle.sets.proofs.Bools.{clash, and_i, not_i, not_e, no_by, implies_i}
use Rattle.sets.proofs.Laws.{all_i}
use Rattle.plan.specs.declared.Plan.{Plan}
use Rattle.plan.specs.Plan.{hears}
use Rattle.closure.specs.FaultSet.{hears_enough, is_bounded, is_fault_set}
use Rattle.closure.specs.Closure.{reached}
use Rattle.closure.proofs.Faults.{fault_below, fault_source, fault_bound}
use Rattle.closure.proofs.Growth.{joins_good, joins_why, joins_source, joins_enough, reached_source, reached_closed, reached_least}
use Rattle.closure.proofs.Witness.{cut_good, cut_unreached, reached_of_none, verdict_pass, pass_by}
use Rattle.tolerance.specs.declared.Drawing.{Drawing}
use Rattle.tolerance.specs.Greatest.{with_bound, passes_with}
use Rattle.tolerance.specs.Links.{redrawn}

module _ (d : Drawing) (k : d.source < d.n) (f : ℕ) (rows : List ℕ) (g : ℕ)
    (direct : (b : ℕ) → b < d.n → hears (with_bound d f) b d.source ≡ true → hears (with_bound (redrawn d rows) g) b d.source ≡ true)
    (votes : (b s : ℕ) → b < d.n → hears_enough (with_bound d f) b s ≡ true → hears_enough (with_bound (redrawn d rows) g) b s ≡ true) where
  -- the plan that passes, and the other
  abbrev p : Plan
  p = with_bound d f

  abbrev q : Plan
  q = with_bound (redrawn d rows) g

  -- a fault set of the other is one of it: whoever heard too many there would do so here
  fault_carried : (s : ℕ) → is_fault_set q s ≡ true → is_fault_set p s ≡ true
  unfolding is_fault_set is_bounded within
  fault_carried s h =
      and_i _ _ (lt-ltb s (2 ^ d.n) (fault_below q s h))
      (and_i _ _ (not_i (fault_source q s h))
      (all_i d.n (λ b. not (mem b s) implies not (hears_enough p b s))
      (λ b l. implies_i _ _ (λ m. not_i (no_by (λ e. clash (votes b s l e) (fault_bound q s h b l (not_e (mem b s) m))))))))

  -- and whom a notice reaches there, it reaches here
  reached_carried : (s b : ℕ) → mem b (reached p s) ≡ true → mem b (reached q s) ≡ true
  reached_carried s =
      reached_least p s (reached q s) (reached_source q s k)
      (λ b l j.
      let good = joins_good p s (reached q s) b j in
      reached_closed q s k b l
      (⊎_elim (λ h. joins_source q s (reached q s) b good (direct b l h)) (λ h. joins_enough q s (reached q s) b good (votes b (reached q s) l h))
      (joins_why p s (reached q s) b j)))

  pub carried : passes_with d f ≡ true → passes_with (redrawn d rows) g ≡ true
  unfolding passes_with
  carried h =
      pass_by q
      (λ s b i l c.
      let z = verdict_pass p h s (fault_carried s i) in
      clash (reached_carried s b (reached_of_none p s z b l (cut_good q s b l c))) (cut_unreached q s b l c))
