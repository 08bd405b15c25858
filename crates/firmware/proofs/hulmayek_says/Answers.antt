-- What the terminal's record says, of the record that the board's stands for. Assumes nothing.
use mathlib.Core.Path.{ap, ◌∙◌}
use Rattle.terminal.specs.Shown.{says}
use Rattle.firmware.specs.Board.{board_says}
use Rattle.firmware.proofs.hulmayek_says.Goals as goal

pub returns : goal.returns
unfolding board_says
returns c = c.says.ensures ∙ ap says c.record_of.ensures
