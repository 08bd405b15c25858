-- `first_cause` meets its contract: the site's causes, the default's, then the others. Assumes nothing.
use mathlib.Core.Path.{◌∙◌}
use native.Mathlib.Omega.{arith}
use borrow.Author.Rules.{rules}
use Rattle.terminal.proofs.Refused.{passed_on, shared_by_site, shared_by_default, shared_by_record}
use Rattle.terminal.proofs.channel.first_cause.Goals as goal

pub returns-in_err-site_cause : goal.returns-in_err-site_cause
returns-in_err-site_cause c = passed_on c.in_err-site_cause.field-0.0 _ _ _ (search rules) c.in_err-site_cause.ensures (shared_by_site _ _ _ _ _ _ _ _)

pub returns-then-default-eq0 : goal.returns-then-default-eq0
returns-then-default-eq0 c =
    (shared_by_default _ _ _ _ _ _ _ _ c.in_ok-site_cause.ensures c.if-default-eq0.true, λ z. absurd (omega (arith, z)))

pub returns : goal.returns
returns c = (
  c.record_cause.ensures.0 ∙ shared_by_record _ _ _ _ _ _ _ _ c.in_ok-site_cause.ensures c.if-default-eq0.false,
  c.record_cause.ensures.1,
)
