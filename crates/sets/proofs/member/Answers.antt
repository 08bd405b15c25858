use mathlib.Core.Path.{sym}
use Rattle.sets.proofs.Laws.{mem_above}
use Rattle.sets.proofs.Operations.{test_member}
use Rattle.sets.proofs.member.Goals as goal

pub returns-then-i-lt32 : goal.returns-then-i-lt32
returns-then-i-lt32 c = test_member c.args.i c.args.s

pub returns : goal.returns
returns c = sym (mem_above 32 c.args.i c.args.s c.ranges.s.fits c.if-i-lt32.false)
