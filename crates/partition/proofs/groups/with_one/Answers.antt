use Rattle.plan.proofs.Laws.{sound}
use Rattle.partition.proofs.Members.{with_below}
use Rattle.partition.proofs.groups.with_one.Goals as goal

pub reaches-requires : goal.reaches-requires
reaches-requires c = let g = c.requires in with_below _ _ _ _ (sound _ c.args.site.now.sound).twenty g.0 g.1 c.with-more.ensures

pub returns-then-reaches : goal.returns-then-reaches
returns-then-reaches c = let g = c.requires in with_below _ _ _ _ (sound _ c.args.site.now.sound).twenty g.0 g.1 c.with-more.ensures

pub returns : goal.returns
returns c = c.requires.0
