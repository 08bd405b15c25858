-- The terminals so far are those below `j` that have any property of which the test tells. Assumes nothing.
use Prim.Native.Nat.{ℕ, ◌<◌, min}
use mathlib.Core.Path.{◌≡◌}
use mathlib.Core.Bool.{Bool}
use Rattle.sets.specs.Sets.{mask}
use Rattle.sets.proofs.those.Given as goal

abbrev pub invariant-loop-j : goal.invariant-loop-j
invariant-loop-j g l = (P : ℕ → Bool) → ((i : ℕ) (b : Bool) → i < min l.n 32 → goal.F-post g l.test i b → b ≡ P i) → l.found ≡ mask l.j P
