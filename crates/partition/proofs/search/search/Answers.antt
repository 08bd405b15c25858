use lib.Bits.{and_mask}
use Rattle.partition.proofs.Best.{stands_none, stands_some}
use Rattle.partition.proofs.search.search.Goals as goal

pub returns-then-best-lt22020096 : goal.returns-then-best-lt22020096
returns-then-best-lt22020096 c = stands_some _ c.args.site.now.sound _ c.least-best.ensures c.if-best-lt22020096.true _ (and_mask c.least-best.result 20)

pub returns : goal.returns
returns c = stands_none _ c.args.site.now.sound _ c.least-best.ensures c.if-best-lt22020096.false
