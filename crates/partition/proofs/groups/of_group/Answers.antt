use Rattle.partition.proofs.Cuts.{cutting_start, group_all}
use Rattle.partition.proofs.groups.of_group.Goals as goal

pub inside-requires : goal.inside-requires
inside-requires c = let g = c.requires in (cutting_start _ c.args.site.now.sound _ _ c.args.site.now.hearers_are g.0 _ _ c.outside-out.ensures c.outside-hopeful.ensures, g.1, g.2)

pub returns : goal.returns
returns c = let g = c.requires in group_all _ c.args.site.now.sound _ _ c.args.site.now.hearers_are g.0 _ _ c.outside-out.ensures c.outside-hopeful.ensures c.inside.ensures
