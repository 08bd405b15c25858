-- How close each terminal is to trouble (document 02, P1): of the members of L that it hears, how many there are at the least beyond the f + 1 that it needs,
-- over all fault sets that leave it good. Assumes nothing.
use Rattle.std.specs.Prelude.{ℕ, zero, suc, ◌+◌, ◌^◌, ◌≤◌, ◌<◌, ◌≡◌, ◌↔◌, Bool, true, not, eqb, ltb, ℤ, pos, ◌-ℤ◌}
use Rattle.std.specs.Int.Signed.{lt_z, le_z}
use Rattle.sets.specs.Tests.{◌and◌, pick}
use Rattle.sets.specs.Sets.{Terminal, Set, mem, count}
use Rattle.quorum.specs.declared.BoundKind.{BoundKind}
use Rattle.quorum.specs.declared.BoundKind.TheVariants.{Most, Groups}
use Rattle.plan.specs.declared.Plan.{Plan}
use Rattle.plan.specs.Plan.{hears}
use Rattle.closure.specs.FaultSet.{is_fault_set}
use Rattle.closure.specs.Closure.{reached, cut_off}
use Rattle.closure.specs.Verdict.{verdict}

-- ---- the margin

-- how many members of a fault set's L terminal b hears
unfoldable pub heard_of_l : Plan → (b : Terminal) (faulty : Set) → ℕ
heard_of_l p b faulty = count p.n (λ a. hears p b a and mem a (reached p faulty))

-- a fault set that leaves b good
unfoldable pub leaves_good : Plan → (b : Terminal) (s : Set) → Bool
leaves_good p b s = is_fault_set p s and not (mem b s)

-- the least over those below s, and n where there is none: nobody hears more than n
unfoldable pub fewest_below : Plan → (b : Terminal) (s : Set) → ℕ
fewest_below p b zero = p.n
fewest_below p b (suc s) = pick (leaves_good p b s and ltb (heard_of_l p b s) (fewest_below p b s)) (heard_of_l p b s) (fewest_below p b s)

-- over all of them
unfoldable pub fewest : Plan → (b : Terminal) → ℕ
fewest p b = fewest_below p b (2 ^ p.n)

-- that it is the least (proofs/Margin.antt, `fewest_least`): of every plan and terminal, since nobody is a fault set that leaves all good
pub record Fewest (p : Plan) (b : Terminal) (heard : ℕ) : Type 0 where
  pub some : (s : ℕ) × (leaves_good p b s ≡ true) × (heard ≡ heard_of_l p b s)
  pub least : (s : ℕ) → leaves_good p b s ≡ true → heard ≤ heard_of_l p b s

-- the bound f; a plan with groups has none, and no margins
abbrev pub bound_of : BoundKind → ℕ
bound_of (Most f) = f
bound_of (Groups count) = 0

-- an integer, since it may lie below zero
unfoldable pub margin : Plan → (b : Terminal) → ℤ
margin p b = pos (fewest p b) -ℤ pos (bound_of p.bound.kind + 1)

-- ---- what is counted

-- a terminal has a margin if it is not the source and does not hear it: whoever hears it takes its word, and is called direct
unfoldable pub is_direct : Plan → (b : Terminal) → Bool
is_direct p b = not (eqb b p.source) and hears p b p.source

unfoldable pub has_margin : Plan → (b : Terminal) → Bool
has_margin p b = not (eqb b p.source) and not (hears p b p.source)

-- how many of the plan's terminals are direct, and how many have a margin below zero, at zero, above zero
unfoldable pub direct_ones : Plan → ℕ
direct_ones p = count p.n (is_direct p)

unfoldable pub below_zero : Plan → ℕ
below_zero p = count p.n (λ b. has_margin p b and lt_z (margin p b) (pos 0))

unfoldable pub at_zero : Plan → ℕ
at_zero p = count p.n (λ b. has_margin p b and le_z (margin p b) (pos 0) and le_z (pos 0) (margin p b))

unfoldable pub above_zero : Plan → ℕ
above_zero p = count p.n (λ b. has_margin p b and lt_z (pos 0) (margin p b))

-- ---- the claim about margins and the verdict, of a plan with a bound f

-- some fault set leaves b good and unreached
abbrev pub KeptWaiting : Plan → (b : Terminal) → Type 0
KeptWaiting p b = (s : ℕ) × (is_fault_set p s ≡ true) × (mem b (cut_off p s) ≡ true)

pub record MarginsTell (p : Plan) : Type 0 where
  -- below zero exactly if some fault set keeps it waiting
  pub below : (b : ℕ) → b < p.n → has_margin p b ≡ true → (lt_z (margin p b) (pos 0) ≡ true) ↔ KeptWaiting p b
  -- none lies below zero exactly if the plan passes
  pub passes : (below_zero p ≡ 0) ↔ ((verdict p).passed ≡ true)
  -- every member of a fail's R has a margin, and it lies below zero
  pub listed : (b : ℕ) → b < p.n → mem b (verdict p).r ≡ true → (has_margin p b ≡ true) × (lt_z (margin p b) (pos 0) ≡ true)
