-- The least closed set from the source and its hearers is what the turns reach. Assumes nothing.
use Rattle.plan.proofs.Laws.{sound}
use Rattle.partition.proofs.Rows.{first_below, spread_reached}
use Rattle.partition.proofs.search.reach.Goals as goal

pub spread-requires : goal.spread-requires
spread-requires c =
    let s = c.args.site.now in
    first_below _ (sound _ s.sound) _ _ _ s.hearers_are c.requires c.singleton-source.ensures

pub returns : goal.returns
returns c =
    let s = c.args.site.now in
    spread_reached _ (sound _ s.sound) _ _ _ s.hearers_are c.requires c.singleton-source.ensures _ c.spread.ensures
