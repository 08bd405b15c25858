use Prim.Native.Nat.{ℕ, ◌-◌}
use mathlib.Core.Path.{ap, ◌∙◌}
use lib.Bits.{bit_and}
use Rattle.sets.proofs.Operations.{and_without}
use Rattle.sets.proofs.without.Goals as goal

pub returns : goal.returns
returns c = ap (λ (x : ℕ). bit_and c.args.s (4294967295 - x)) c.singleton.ensures ∙ and_without 32 c.args.s c.args.i c.ranges.s.fits
