-- The greatest bound f for which a drawing passes (document 02, P13). Assumes nothing.
use Rattle.std.specs.Prelude.{ℕ, zero, suc, ◌+◌, ◌<◌, ◌≡◌, Bool, true, false}
use Rattle.sets.specs.Tests.{pick}
use Rattle.quorum.specs.Quorum.{at_most}
use Rattle.plan.specs.declared.Plan.{Plan}
use Rattle.closure.specs.Verdict.{verdict}
use Rattle.tolerance.specs.declared.Drawing.{Drawing}

-- a drawing has the links alone: with a bound f it is a plan
abbrev pub with_bound : Drawing → (f : ℕ) → Plan
with_bound d f = record { n = d.n; source = d.source; bound = at_most f; rows = d.rows }

-- and a plan has a drawing, whatever its bound
abbrev pub drawing_of : Plan → Drawing
drawing_of p = record { n = p.n; source = p.source; rows = p.rows }

unfoldable pub passes_with : Drawing → (f : ℕ) → Bool
passes_with d f = (verdict (with_bound d f)).passed

-- none, or bounds up to f
pub data Tolerance : Type 0 where
  none : Tolerance
  up_to : (f : ℕ) → Tolerance

-- the greatest below k for which it passes
unfoldable pub greatest_below : Drawing → (k : ℕ) → Tolerance
greatest_below d zero = none
greatest_below d (suc k) = pick (passes_with d k) (up_to k) (greatest_below d k)

-- of those that a plan may have, 0 to n - 1
unfoldable pub greatest : Drawing → Tolerance
greatest d = greatest_below d d.n

-- that it is the greatest (proofs/Heights.antt, `greatest_is`)
abbrev pub IsGreatest : Drawing → Tolerance → Type 0
IsGreatest d none = (g : ℕ) → g < d.n → passes_with d g ≡ false
IsGreatest d (up_to f) = (f < d.n) × (passes_with d f ≡ true) × ((g : ℕ) → f < g → g < d.n → passes_with d g ≡ false)

-- in steps: none lies one below the bound 0
abbrev pub height : Tolerance → ℕ
height none = 0
height (up_to f) = f + 1
