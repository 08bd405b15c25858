use Rattle.partition.proofs.Bounds.{spreading_start, spreading_next, spreading_less, spreading_ends}
use Rattle.partition.proofs.search.turns.Goals as goal

pub loop-l-init : goal.loop-l-init
loop-l-init g c = spreading_start _ _ _ c.requires.small

pub turn-next-requires : goal.turn-next-requires
turn-next-requires g c = c.requires.takes _ c.loop-l.invariant.below

pub returns-then-next-l : goal.returns-then-next-l
returns-then-next-l g c = spreading_ends c.loop-l.invariant (c.requires.sweeps _ _ c.loop-l.invariant.below c.turn-next.ensures) c.if-next-l.true

pub loop-l-smaller : goal.loop-l-smaller
loop-l-smaller g c = spreading_less c.loop-l.invariant (c.requires.sweeps _ _ c.loop-l.invariant.below c.turn-next.ensures) c.if-next-l.false

pub loop-l-preserved : goal.loop-l-preserved
loop-l-preserved g c = spreading_next c.loop-l.invariant (c.requires.sweeps _ _ c.loop-l.invariant.below c.turn-next.ensures)
