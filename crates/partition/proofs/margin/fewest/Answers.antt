-- The whole search, from what nobody hears more than. Assumes nothing.
use lib.ListN.{replicate, get_or-replicate}
use Rattle.partition.proofs.Best.{whole}
use Rattle.partition.proofs.Lows.{sought_low, lowest}
use Rattle.partition.proofs.margin.fewest.Goals as goal

pub inside-requires : goal.inside-requires
inside-requires c = let s = c.args.site.now in let one = c.singleton-source.ensures in (whole _ s.sound _ one _ c.requires _ s.hearers_are, sought_low _ s.sound _ one _ s.hearers_are _ c.outside-sought.ensures)

pub returns : goal.returns
returns c = let s = c.args.site.now in lowest _ s.sound _ c.singleton-source.ensures _ s.hearers_are _ c.outside-sought.ensures (replicate 20 20) _ (λ b k. get_or-replicate 20 b 20 0 k) c.inside.ensures
