-- The number with a figure more, if it is not too large already. Assumes nothing.
use Prim.Native.Nat.{ℕ, ◌+◌, ◌*◌, ◌-◌, ◌<◌, ◌≤◌}
use mathlib.Core.Path.{ap, subst}
use Rattle.wording.proofs.Ears.{figure_bounds, figured_large, figured_small}
use Rattle.wording.proofs.ear.figured.Goals as goal

pub overflow_sub-result : goal.overflow_sub-result
overflow_sub-result c = (figure_bounds c.args.byte c.requires).0

pub returns-then-before-gt99 : goal.returns-then-before-gt99
returns-then-before-gt99 c = figured_large c.args.e c.args.byte (subst (λ (k : ℕ). 99 < k) c.unwrap_or-before.ensures c.if-before-gt99.true)

pub returns : goal.returns
returns c = figured_small c.args.e c.args.byte _ (subst (λ (k : ℕ). k ≤ 99) c.unwrap_or-before.ensures c.if-before-gt99.false)
    (ap (λ (k : ℕ). k * 10 + (c.args.byte - 48)) c.unwrap_or-before.ensures)
