-- Out itself, or with whoever would be one too many. Assumes nothing.
use Rattle.plan.proofs.Laws.{sound}
use Rattle.partition.proofs.Lows.{barred_more}
use Rattle.partition.proofs.margin.barred.Goals as goal

pub returns : goal.returns
returns c = let g = c.requires in barred_more _ (sound _ c.args.site.now.sound) _ g.0 _ _ _ _ _ g.2 c.if-f-eq0.false c.over.ensures c.heard.ensures c.outside.ensures
