-- A plan with a deaf terminal fails by nobody, and cuts off whoever is deaf. Assumes nothing.
use Prim.Native.Nat.{ℕ, zero, suc, ◌-◌, ◌<◌}
use mathlib.Core.Path.{◌≡◌, sym, ap, ◌∙◌}
use mathlib.Core.Logic.{⊎_elim}
use mathlib.Core.Bool.{true, false}
use native.Mathlib.Omega.{arith}
use borrow.Author.Tests.{eqb-true, eq-eqb}
use Rattle.sets.specs.Sets.{mem, size}
use Rattle.sets.proofs.Bools.{clash, and_l, and_r, and_no_l, not_e, no_by}
use Rattle.sets.proofs.Laws.{mask_lt, mem_mask, mem_below, mem_zero, some_member, count_none}
use Rattle.plan.specs.declared.Plan.{Plan}
use Rattle.plan.specs.Plan.{heard_by, hears}
use Rattle.plan.specs.Deaf.{is_deaf, deaf_set}
use Rattle.closure.specs.FaultSet.{hears_enough}
use Rattle.closure.specs.Closure.{reached_after, reached, cut_off}
use Rattle.closure.specs.Verdict.{verdict, Ahead}
use Rattle.closure.specs.Deaf.{DeafFails}
use Rattle.closure.proofs.Faults.{hears_none, fault_none}
use Rattle.closure.proofs.Growth.{joins_why, after_why, first_only}
use Rattle.closure.proofs.Witness.{cut_is, defeats_i, verdict_pass, verdict_fail}

module _ (p : Plan) where
  -- ---- a deaf terminal

  module _ (b : ℕ) (m : mem b (deaf_set p) ≡ true) where
    below : b < p.n
    unfolding deaf_set
    below = mem_below p.n b (deaf_set p) (mask_lt p.n (is_deaf p)) m

    deaf : is_deaf p b ≡ true
    unfolding deaf_set
    deaf = sym (mem_mask p.n b (is_deaf p) below) ∙ m

    other : b ≡ p.source → ⊥
    unfolding is_deaf
    other e = clash (eq-eqb b p.source e) (not_e _ (and_l _ _ deaf))

    hears_nobody : (a : ℕ) → hears p b a ≡ false
    unfolding is_deaf hears
    hears_nobody a = ap (mem a) (eqb-true (heard_by p b) 0 (and_r _ _ deaf)) ∙ mem_zero a

    never_enough : (s : ℕ) → hears_enough p b s ≡ false
    never_enough s = hears_none p b s (λ a. and_no_l _ _ (hears_nobody a))

    -- no turn of the growth has it
    unreached : (faulty k : ℕ) → mem b (reached_after p faulty k) ≡ true → ⊥
    unreached faulty zero h = other (first_only p faulty b below h)
    unreached faulty (suc k) h =
        ⊎_elim (unreached faulty k)
        (λ j. ⊎_elim (λ s. clash s (hears_nobody p.source)) (λ e. clash e (never_enough (reached_after p faulty k))) (joins_why p faulty _ b j))
        (after_why p faulty k b below h)

    cut : mem b (cut_off p 0) ≡ true
    unfolding reached
    cut = cut_is p 0 b below (mem_zero b) (no_by (unreached 0 (p.n - 1)))

  -- ---- the verdict

  module _ (some : deaf_set p ≡ 0 → ⊥) where
    cuts : cut_off p 0 ≡ 0 → ⊥
    unfolding deaf_set
    cuts z =
        let d = some_member p.n (deaf_set p) (mask_lt p.n (is_deaf p)) some in
        clash (cut d.0 d.2) (ap (mem d.0) z ∙ mem_zero d.0)

    fails : (verdict p).passed ≡ false
    fails = no_by (λ h. cuts (verdict_pass p h 0 (fault_none p)))

    -- no set has fewer members, or as many and a smaller number
    least : (verdict p).f ≡ 0
    unfolding Ahead size
    least =
        let none = count_none p.n (λ i. mem i 0) (λ i k. mem_zero i) in
        ⊎_elim (λ (l : size p.n (verdict p).f < size p.n 0). absurd (omega arith)) (λ e. let l = e.1 in omega arith)
        ((verdict_fail p fails).least 0 (defeats_i p 0 (fault_none p) cuts))

    pub deaf_fails : DeafFails p
    deaf_fails = record {
      failed = fails;
      nobody_bad = least;
      cut_off = λ b m. ap (mem b) ((verdict_fail p fails).r_is ∙ ap (cut_off p) least) ∙ cut b m;
    }
