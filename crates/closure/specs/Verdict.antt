-- The verdict with its witness, and the witness check (document 01, "Verdict and witness"). Assumes nothing.
use Rattle.std.specs.Prelude.{ℕ, zero, suc, ◌^◌, ◌≤◌, ◌<◌, ◌≡◌, ◌⊎◌, Bool, true, false, not, eqb, ltb}
use Rattle.sets.specs.Tests.{◌and◌, ◌implies◌, pick}
use Rattle.sets.specs.Sets.{Set, mem, all, size, is_partition}
use Rattle.plan.specs.declared.Plan.{Plan}
use Rattle.plan.specs.Plan.{hears}
use Rattle.closure.specs.FaultSet.{hears_enough, is_fault_set}
use Rattle.closure.specs.Closure.{reached, cut_off}

-- a fault set that leaves R non-empty
unfoldable pub defeats : Plan → (faulty : Set) → Bool
defeats p faulty = is_fault_set p faulty and not (eqb (cut_off p faulty) 0)

-- the best set found so far, if there is one
pub data Found : Type 0 where
  none : Found
  found : Set → Found

-- a set that defeats the plan takes the place of the best only where it has fewer members: the sets come in ascending order, so of as many members
-- the smallest as a number stays
unfoldable pub better : Plan → (best : Found) (s : Set) → Found
better p none s = pick (defeats p s) (found s) none
better p (found best) s = pick (defeats p s and ltb (size p.n s) (size p.n best)) (found s) (found best)

-- the best of the sets below s
unfoldable pub best_below : Plan → (s : Set) → Found
best_below p zero = none
best_below p (suc s) = better p (best_below p s) s

-- pass, with three empty sets, or fail with the witness: F, L and R
pub record Verdict : Type 0 where
  pub passed : Bool
  pub f : Set
  pub l : Set
  pub r : Set

unfoldable pub verdict_of : Plan → Found → Verdict
verdict_of p none = record { passed = true; f = 0; l = 0; r = 0 }
verdict_of p (found s) = record { passed = false; f = s; l = reached p s; r = cut_off p s }

unfoldable pub verdict : Plan → Verdict
verdict p = verdict_of p (best_below p (2 ^ p.n))

-- that the witness is the least (proofs/Witness.antt, `verdict_fail`): a comes before b if it has fewer members, or as many and is no greater as a number
unfoldable pub Ahead : Plan → (a b : Set) → Type 0
Ahead p a b = (size p.n a < size p.n b) ⊎ ((size p.n a ≡ size p.n b) × (a ≤ b))

pub record Fails (p : Plan) (v : Verdict) : Type 0 where
  pub beaten : defeats p v.f ≡ true
  pub l_is : v.l ≡ reached p v.f
  pub r_is : v.r ≡ cut_off p v.f
  pub least : (s : ℕ) → defeats p s ≡ true → Ahead p v.f s

-- the witness check: F, L, R are a partition of the terminals, the source is in L, R is non-empty, F is a fault set, no member of R hears the source,
-- and none hears enough members of L
unfoldable pub accepts : Plan → (f l r : Set) → Bool
accepts p f l r =
    is_partition p.n f l r and mem p.source l and not (eqb r 0) and is_fault_set p f
    and all p.n (λ b. mem b r implies (not (hears p b p.source) and not (hears_enough p b l)))
