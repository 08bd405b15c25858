use mathlib.Core.Path.{sym}
use native.Mathlib.Nat.{lt_of_lt_of_le}
use borrow.Author.Tests.{lt-ltb}
use lib.Pow.{pow_mono}
use Prim.Native.Nat.{◌^◌}
use Rattle.sets.specs.Sets.{within}
use Rattle.sets.proofs.Operations.{test_within}
use Rattle.sets.proofs.within.Goals as goal

pub returns-then-n-lt32 : goal.returns-then-n-lt32
returns-then-n-lt32 c = test_within c.args.n c.args.s

pub returns : goal.returns
unfolding within
returns c = sym (lt-ltb c.args.s (2 ^ c.args.n) (lt_of_lt_of_le c.ranges.s.fits (pow_mono c.if-n-lt32.false)))
