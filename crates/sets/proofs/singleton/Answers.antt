use Rattle.sets.proofs.Operations.{power_singleton, zero_singleton}
use Rattle.sets.proofs.singleton.Goals as goal

pub returns-then-i-lt32 : goal.returns-then-i-lt32
returns-then-i-lt32 c = power_singleton 32 c.args.i c.if-i-lt32.true

pub returns : goal.returns
returns c = zero_singleton 32 c.args.i c.if-i-lt32.false
