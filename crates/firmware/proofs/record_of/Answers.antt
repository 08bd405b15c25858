-- The fields, and the state that the bytes stand for. Assumes nothing.
use mathlib.Core.Path.{ap}
use Rattle.terminal.specs.declared.State.{State}
use Rattle.firmware.specs.Board.{record_of}
use Rattle.firmware.proofs.record_of.Goals as goal

pub returns : goal.returns
unfolding record_of
returns c = ap (λ (s : State). record { state = s; round = c.args.b.now.round; notes = c.args.b.now.notes }) c.state_of.ensures
