-- Which of the two runs was asked for. Assumes nothing.
use mathlib.Core.Path.{sym, ◌∙◌}
use Rattle.frames.specs.Reading.{both}
use Rattle.run_output.proofs.SiteLaws.{told_shared, told_linked}
use Rattle.run_output.proofs.ran.Goals as goal

pub returns-then-is_shared : goal.returns-then-is_shared
returns-then-is_shared c =
    let a = c.args in
    told_shared a.p (both a.words.now a.later.now) _ (sym c.is_shared.ensures ∙ c.if-is_shared.true) c.ran_shared.ensures

pub returns : goal.returns
returns c =
    let a = c.args in
    told_linked a.p (both a.words.now a.later.now) _ (sym c.is_shared.ensures ∙ c.if-is_shared.false) c.ran_linked.ensures
