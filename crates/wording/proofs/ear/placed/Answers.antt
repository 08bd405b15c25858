-- The number goes to its set, if there is one. Assumes nothing.
use Rattle.wording.proofs.Ears.{placed_none, placed_waiting, placed_silent}
use Rattle.wording.proofs.ear.placed.Goals as goal

pub returns-in_default : goal.returns-in_default
returns-in_default c = placed_none c.args.e c.in_default.is

pub returns-then-e : goal.returns-then-e
returns-then-e c = placed_waiting c.args.e _ _ c.in-Some.is c.if-e.true c.with.ensures

pub returns : goal.returns
returns c = placed_silent c.args.e _ _ c.in-Some.is c.if-e.false c.with-2.ensures
