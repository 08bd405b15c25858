-- `first_cause` meets its contract: the site's causes, then the others. Assumes nothing.
use mathlib.Core.Path.{◌∙◌}
use borrow.Author.Rules.{rules}
use Rattle.terminal.proofs.Refused.{passed_on, cause_by_site, cause_by_record}
use Rattle.terminal.proofs.first_cause.Goals as goal

pub returns-in_err-site_cause : goal.returns-in_err-site_cause
returns-in_err-site_cause c = passed_on c.in_err-site_cause.field-0.0 _ _ _ (search rules) c.in_err-site_cause.ensures (cause_by_site _ _ _ _ _ _ _)

pub returns : goal.returns
returns c = (c.record_cause.ensures.0 ∙ cause_by_record _ _ _ _ _ _ _ c.in_ok-site_cause.ensures, c.record_cause.ensures.1)
