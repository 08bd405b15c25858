use mathlib.Core.Path.{ap, ◌∙◌}
use lib.Bits.{bit_or}
use Rattle.sets.proofs.Operations.{or_with}
use Rattle.sets.proofs.with.Goals as goal

pub returns : goal.returns
returns c = ap (bit_or c.args.s) c.singleton.ensures ∙ or_with 32 c.args.s c.args.i c.ranges.s.fits
