-- The room decides, then the number that was there before. Assumes nothing.
use mathlib.Core.Path.{sym}
use Rattle.text.proofs.Laws.{written_fits, written_short, written_refused}
use Rattle.text.proofs.answer.Goals as goal

pub returns-then-len-room : goal.returns-then-len-room
returns-then-len-room c = sym (written_fits _ _ _ c.if-len-room.true)

pub returns-then-number-eq0 : goal.returns-then-number-eq0
returns-then-number-eq0 c = sym (written_short _ _ _ c.if-len-room.false c.if-number-eq0.true)

pub returns : goal.returns
returns c = sym (written_refused _ _ _ c.if-len-room.false c.if-number-eq0.false)
