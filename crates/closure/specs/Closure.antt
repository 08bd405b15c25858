-- Which terminals a notice surely reaches when the terminals of a fault set are silent (document 01, "Verdict and witness": L and R). Assumes nothing.
use Rattle.std.specs.Prelude.{ℕ, zero, suc, ◌-◌, Bool, not, eqb}
use Rattle.sets.specs.Tests.{◌and◌, ◌or◌}
use Rattle.sets.specs.Sets.{Terminal, Set, mem, mask, outside}
use Rattle.plan.specs.declared.Plan.{Plan}
use Rattle.plan.specs.Plan.{hears}
use Rattle.closure.specs.FaultSet.{hears_enough}

-- a terminal outside the fault set joins if it hears the source, or hears enough members of the reached set: at least f + 1, or some who fit in no group
unfoldable pub joins : Plan → (faulty reached : Set) (b : Terminal) → Bool
joins p faulty reached b = not (mem b faulty) and (hears p b p.source or hears_enough p b reached)

-- one turn of the growth
unfoldable pub grow : Plan → (faulty reached : Set) → Set
grow p faulty reached = mask p.n (λ b. mem b reached or joins p faulty reached b)

-- the reached set after k turns, from the source alone
unfoldable pub reached_after : Plan → (faulty : Set) (turns : ℕ) → Set
reached_after p faulty zero = mask p.n (λ b. eqb b p.source)
reached_after p faulty (suc k) = grow p faulty (reached_after p faulty k)

-- L: n - 1 turns reach all that any number of turns reaches (proofs/Growth.antt)
unfoldable pub reached : Plan → (faulty : Set) → Set
reached p faulty = reached_after p faulty (p.n - 1)

-- R: what is left outside both
unfoldable pub cut_off : Plan → (faulty : Set) → Set
cut_off p faulty = outside p.n faulty (reached p faulty)
