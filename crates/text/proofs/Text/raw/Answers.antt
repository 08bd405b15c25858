-- The store at the text's end, or a text that is full. Assumes nothing.
use mathlib.Core.Path.{◌≡◌}
use lib.ListN.{length}
use borrow.Author.Rules.{rules}
use Rattle.text.specs.Texts.{held}
use Rattle.text.proofs.Laws.{grown, full}
use Rattle.text.proofs.Text.raw.Goals as goal

pub returns-then-self-lt-ROOM : goal.returns-then-self-lt-ROOM
unfolding held
returns-then-self-lt-ROOM c = let e : length c.args.self.bytes ≡ 344 = search rules in grown _ _ _ e c.if-self-lt-ROOM.true

pub returns-else-self-lt-ROOM : goal.returns-else-self-lt-ROOM
unfolding held
returns-else-self-lt-ROOM c = let e : length c.args.self.bytes ≡ 344 = search rules in full _ _ _ e c.if-self-lt-ROOM.false
