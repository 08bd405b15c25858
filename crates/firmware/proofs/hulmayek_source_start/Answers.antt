-- The source's start record, as a board keeps it. Assumes nothing.
use mathlib.Core.Path.{ap, ◌∙◌}
use Rattle.firmware.specs.Board.{board_of}
use Rattle.firmware.proofs.hulmayek_source_start.Goals as goal

pub returns : goal.returns
returns c = c.board_of.ensures ∙ ap board_of c.source_start.ensures
