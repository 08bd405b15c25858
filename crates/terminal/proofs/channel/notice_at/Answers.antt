-- What was said at a place of the list, silence past its end. Assumes nothing.
use mathlib.Core.Path.{sym, ap, ◌∙◌}
use borrow.Author.Rules.{rules}
use lib.ListN.{get_or-eq_default}
use Rattle.quorum.specs.Notice.{first_edition}
use Rattle.quorum.proofs.Notices.{first_silence}
use Rattle.terminal.proofs.channel.notice_at.Goals as goal

pub returns-in-None : goal.returns-in-None
returns-in-None c = sym (ap first_edition (get_or-eq_default c.args.said.now 0 (search rules)) ∙ first_silence)
