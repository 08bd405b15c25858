-- A number has one digit or two. Assumes nothing.
use mathlib.Core.Path.{sym}
use Rattle.sentence_output.proofs.Entries.{one_length, two_length}
use Rattle.sentence_output.proofs.entry.line_len.Goals as goal

pub returns-then-n-lt10 : goal.returns-then-n-lt10
returns-then-n-lt10 c = sym (one_length c.args.n c.if-n-lt10.true)

pub returns-else-n-lt10 : goal.returns-else-n-lt10
returns-else-n-lt10 c = sym (two_length c.args.n c.if-n-lt10.false c.requires)
