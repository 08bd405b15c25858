-- All bounds so far pass. Assumes nothing.
use Prim.Native.Nat.{ℕ, suc}
use mathlib.Core.Bool.{true}
use mathlib.Core.Path.{◌≡◌}
use Rattle.tolerance.specs.Greatest.{passes_with}
use Rattle.tolerance.proofs.passed.Given as goal

abbrev pub invariant-loop-f : goal.invariant-loop-f
invariant-loop-f l = (g : ℕ) → suc g ≡ l.f → passes_with l.d g ≡ true
