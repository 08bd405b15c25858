-- Everyone of n, or of the whole word. Assumes nothing.
use Prim.Native.Nat.{ℕ, ◌≤◌}
use mathlib.Core.Path.{sym, subst, ◌∙◌}
use native.Mathlib.Omega.{arith}
use lib.Pow.{pow_pos}
use Rattle.sets.proofs.Partition.{one_shift, left_is, wide_is, few_outside, many_outside}
use Rattle.sets.proofs.outside.Goals as goal

pub overflow_sub-result : goal.overflow_sub-result
overflow_sub-result c = let a = c.args in subst (λ (x : ℕ). 1 ≤ x) (sym (one_shift a.n c.if-n-lt32.true)) (pow_pos a.n)

pub returns-then-n-lt32 : goal.returns-then-n-lt32
returns-then-n-lt32 c = let a = c.args in left_is a.n a.a a.b c.if-n-lt32.true c.ranges.a.fits c.ranges.b.fits ∙ sym (few_outside a.n a.a a.b (omega arith))

pub returns : goal.returns
returns c = let a = c.args in wide_is a.a a.b c.ranges.a.fits c.ranges.b.fits ∙ sym (many_outside a.n a.a a.b c.if-n-lt32.false)
