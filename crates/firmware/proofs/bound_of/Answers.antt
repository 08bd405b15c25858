-- The groups, and the kind that the number stands for. Assumes nothing.
use mathlib.Core.Path.{ap}
use Rattle.quorum.specs.declared.BoundKind.{BoundKind}
use Rattle.firmware.specs.Board.{bound_of}
use Rattle.firmware.proofs.bound_of.Goals as goal

pub returns : goal.returns
unfolding bound_of
returns c = ap (λ (k : BoundKind). record { kind = k; groups = c.args.told.now.groups }) c.kind_of.ensures
